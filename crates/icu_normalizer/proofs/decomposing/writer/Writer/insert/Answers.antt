use Rattle.std.proofs.Common.{◌≡◌, ◌+◌, ◌≤◌, ◌∷◌, ◌++◌, true, take, drop, length, rules, sym, ap, subst, ◌∙◌, arith, append-nil}
use Rattle.std.proofs.lemmas.List.{length-take-le, take-take}
use Rattle.icu_normalizer_core.specs.Canonical.{marks_in_order}
use Rattle.icu_normalizer.specs.Marks.{stands_to}
use Rattle.icu_normalizer.specs.Writer.{writer_data}
use Rattle.icu_normalizer.proofs.writing.InsertLemmas.{inserted_order, inserted_stands}
use Rattle.icu_normalizer.proofs.decomposing.writer.Writer.insert.Goals as goal

pub invariant_of-self-clause-order : goal.invariant_of-self-clause-order
invariant_of-self-clause-order c =
    let b = c.args.self.now in
    let class = (writer_data b).class in
    let index = c.index_for-index.result in
    let xs = take b.count b.few in
    let long : length xs ≡ b.count = length-take-le b.count b.few (search rules) in
    let within = c.index_for-index.ensures.within in
    let inside : index ≤ b.count = omega (arith, within, long) in
    let put = c.insert_at.ensures ∙ ap (λ l. l ++ c.args.c ∷ drop index xs) (sym (take-take index b.count b.few inside)) in
    subst (λ l. stands_to class 0 c.last_class-last.result l ≡ true) (sym put)
    (inserted_stands class xs index b.count c.args.c c.args.class long inside c.requires.class c.index_for-index.ensures.above c.index_for-index.ensures.behind
    b.last c.last_class-last.result b.order c.last_class-last.ensures.behind c.last_class-last.ensures.among)

pub returns-clause-kept : goal.returns-clause-kept
returns-clause-kept c =
    let b = c.args.self.now in
    let class = (writer_data b).class in
    let index = c.index_for-index.result in
    let xs = take b.count b.few in
    let none = b.full c.requires.room in
    let long : length xs ≡ b.count = length-take-le b.count b.few (search rules) in
    let within = c.index_for-index.ensures.within in
    let inside : index ≤ b.count = omega (arith, within, long) in
    let put = c.insert_at.ensures ∙ ap (λ l. l ++ c.args.c ∷ drop index xs) (sym (take-take index b.count b.few inside)) in
    record {
      at = λ rest.
          ap (λ l. marks_in_order class ((take (b.count + 1) c.insert_at.new.list ++ l) ++ rest)) none
          ∙ ap (λ l. marks_in_order class (l ++ rest)) (append-nil (take (b.count + 1) c.insert_at.new.list) ∙ put)
          ∙ inserted_order class xs index b.count c.args.c c.args.class long inside c.requires.class c.index_for-index.ensures.above c.index_for-index.ensures.behind
          rest (omega (arith, c.requires.class, c.requires.mark))
          ∙ ap (λ l. marks_in_order class (l ++ c.args.c ∷ rest)) (sym (append-nil xs) ∙ ap (λ l. xs ++ l) (sym none));
    }
