use Rattle.std.proofs.Common.{Bool, List, [], ◌∷◌, ◌++◌, cond, map, refl, sym, ap, subst, ◌∙◌}
use Rattle.std.proofs.lemmas.List.{map-append}
use Rattle.collate_words.specs.Entries.{said_beside}
use Rattle.collate_words.specs.Sayings.{SaidBeside}
use Rattle.collate_compile.specs.BesideLines.{HasTexts}
use Rattle.collate_compile.proofs.gathering.TextLemmas.{beside_with, texts_with}
use Rattle.collate_compile.proofs.gather.add_beside.Goals as goal

pub returns-then-not-branch-clause-besides : goal.returns-then-not-branch-clause-besides
returns-then-not-branch-clause-besides c =
    let saids = map said_beside c.args.besides.now.items in
    let said = said_beside c.args.beside in
    sym (beside_with c.args.texts.now c.insert.new.self c.args.beside.characters c.in_ok-insert.field-0
    c.in_ok-insert.ensures.added c.in_ok-insert.ensures.keys saids said refl c.requires
    ∙ ap (λ (b : Bool). cond b (saids ++ said ∷ []) saids) c.if-not-branch.true)

pub returns-clause-besides : goal.returns-clause-besides
returns-clause-besides c =
    let saids = map said_beside c.args.besides.now.items in
    let said = said_beside c.args.beside in
    ap (map said_beside) c.in_ok-push.ensures.items
    ∙ map-append said_beside c.args.besides.now.items (c.args.beside ∷ [])
    ∙ sym (beside_with c.args.texts.now c.insert.new.self c.args.beside.characters c.in_ok-insert.field-0
    c.in_ok-insert.ensures.added c.in_ok-insert.ensures.keys saids said refl c.requires
    ∙ ap (λ (b : Bool). cond b (saids ++ said ∷ []) saids) c.if-not-branch.false)

pub returns-clause-texts : goal.returns-clause-texts
returns-clause-texts c =
    subst (λ (saids : List SaidBeside). HasTexts c.insert.new.self saids) (sym (returns-clause-besides c))
    (texts_with c.args.texts.now c.insert.new.self c.args.beside.characters c.in_ok-insert.field-0
    c.in_ok-insert.ensures.added c.in_ok-insert.ensures.keys (map said_beside c.args.besides.now.items)
    (said_beside c.args.beside) refl c.requires)
