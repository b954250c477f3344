use Rattle.std.proofs.Common.{◌≡◌, ◌++◌, true, take, rules, sym, ap, subst, ◌∙◌, arith, append-nil}
use Rattle.icu_normalizer.specs.FormNotes.{noted_list}
use Rattle.icu_normalizer.specs.Marks.{stands_to}
use Rattle.icu_normalizer.specs.Writer.{writer_data}
use Rattle.icu_normalizer.proofs.writing.OrderLemmas.{stands_join}
use Rattle.icu_normalizer.proofs.writing.WriterLemmas.{some_set}
use Rattle.icu_normalizer.proofs.decomposing.writer.Writer.append.Goals as goal

pub invariant_of-self-clause-order : goal.invariant_of-self-clause-order
invariant_of-self-clause-order c =
    let b = c.args.self.now in
    let set_is = some_set b.few b.count c.args.note.len c.args.note.first c.args.note.second c.args.note.third (search rules) c.requires.within in
    subst (λ l. stands_to (writer_data b).class 0 c.args.note.class l ≡ true) (sym set_is)
    (stands_join (writer_data b).class 0 b.last c.args.note.class (take b.count b.few) (noted_list c.args.note) b.order c.requires.stands)

pub returns-clause-held : goal.returns-clause-held
returns-clause-held c =
    let b = c.args.self.now in
    let none = b.full (omega (arith, c.requires.room)) in
    let set_is = some_set b.few b.count c.args.note.len c.args.note.first c.args.note.second c.args.note.third (search rules) c.requires.within in
    ap (λ l. l ++ b.more.items) set_is ∙ ap (λ l. (take b.count b.few ++ noted_list c.args.note) ++ l) none ∙ append-nil (take b.count b.few ++ noted_list c.args.note)
    ∙ ap (λ l. l ++ noted_list c.args.note) (sym (ap (λ l. take b.count b.few ++ l) none ∙ append-nil (take b.count b.few)))
