use Rattle.std.proofs.Common.{◌≡◌, ◌∷◌, [], ◌∙◌, All, List, ℕ, None, ap, false, rules, subst, sym, true}
use Rattle.std.proofs.lemmas.List.Elements.{All-push}
use lib.Utf8.{scalars}
use Rattle.icu_collator_core.specs.ElementLists.{unpacked}
use Rattle.icu_collator_core.specs.Elements.{elements_of_list}
use Rattle.icu_collator_core.specs.Pairs.{IsPairNote}
use Rattle.icu_collator_core.specs.ReadSources.{canonical_by, weights_by}
use Rattle.icu_collator_core.specs.declared.notes.pairs.PairNote.{PairNote}
use Rattle.icu_collator_core.proofs.readings.PairLemmas.{composed_pair, pair_noted}
use Rattle.icu_collator_core.proofs.notes.found_pairs.push_composed.Goals as goal

pub returns-in-Some : goal.returns-in-Some
returns-in-Some c =
    let source = c.args.sound.now in
    let first = c.args.first in
    let head = c.args.head in
    let mark = c.args.mark in
    let second = c.args.second in
    let items = c.in_ok-elements.elements.items in
    let told : c.is_composed_apart.result ≡ true = search rules in
    let ok : scalars (head ∷ mark ∷ second ∷ []) ≡ true = search rules in
    let list : c.push-3.new.self.items ≡ head ∷ mark ∷ second ∷ [] = search rules in
    let are : unpacked items ≡ elements_of_list (canonical_by source) (weights_by None source) false (head ∷ mark ∷ second ∷ []) =
    c.in_ok-elements.ensures ∙ ap (λ (l : List ℕ). elements_of_list (canonical_by source) (weights_by None source) false l) list in
    let noted : IsPairNote source c.in-Some.pair =
    pair_noted source c.in-Some.pair first second 256 items c.in-Some.ensures.first c.in-Some.ensures.second c.in-Some.ensures.trail
    (c.in-Some.ensures.elements ∙ c.as_slice.ensures) (composed_pair source first head mark second items (c.is_composed_apart.ensures told) ok are c.requires.full) in
    subst (λ (notes : List PairNote). All (IsPairNote source) notes) (sym c.in_ok-push-in-Some.ensures.items)
    (All-push (IsPairNote source) c.args.pairs.now.items c.in-Some.pair c.requires.noted noted)
