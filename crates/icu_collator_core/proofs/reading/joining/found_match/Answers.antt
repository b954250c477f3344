use Rattle.std.proofs.Common.{◌≡◌, ◌+◌, ◌-◌, ◌∷◌, ◌∙◌, [], ap, sym, subst, arith, drop, take, true}
use Rattle.std.proofs.lemmas.Bool.{and_parts}
use Rattle.std.proofs.lemmas.List.{drop-drop}
use lib.Utf8.{scalar, scalars}
use Rattle.icu_normalizer_core.specs.BorrowedMeaning.{borrowed_meaning}
use Rattle.icu_collator_core.specs.Elements.{joining, placed}
use Rattle.icu_collator_core.specs.JoinedTexts.{IsFoundAs}
use Rattle.icu_collator_core.specs.ReadWords.{table_word}
use Rattle.icu_collator_core.specs.TableMeaning.{pools_of}
use Rattle.icu_collator_core.proofs.lookups.FoundTextLemmas.{found_alone, text_match_is}
use Rattle.icu_collator_core.proofs.lookups.MatchLemmas.{scalars_front}
use Rattle.icu_collator_core.proofs.lookups.OpenTextLemmas.{scalars_behind}
use Rattle.icu_collator_core.proofs.readings.MovedMarkLemmas.{moved_itself}
use Rattle.icu_collator_core.proofs.reading.joining.found_match.Goals as goal

pub returns-in_default-clause-found : goal.returns-in_default-clause-found
returns-in_default-clause-found c = λ weights d first said ok.
    found_alone (borrowed_meaning c.args.canonical) weights (table_word c.args.entry) d said c.in_default.ensures c.args.index c.args.list.now first ok

pub returns-in_default-clause-moved : goal.returns-in_default-clause-moved
returns-in_default-clause-moved c = moved_itself (borrowed_meaning c.args.canonical).class c.args.list.now

pub returns-clause-found : goal.returns-clause-found
returns-clause-found c = λ weights d first said ok.
    let canonical = borrowed_meaning c.args.canonical in
    let list = c.args.list.now in
    let index = c.args.index in
    let behind = drop (index + 1) list in
    let others : scalars behind ≡ true = (and_parts (scalar d) (scalars behind) (ap scalars (sym first) ∙ ok)).1 in
    let longest = c.longest_open-text.ensures in
    let begins = longest.begins in
    let next = c.longest_open-text.result.next in
    let n = next - (index + 1) in
    let sum : index + 1 + n ≡ next = omega (arith, begins) in
    let left : scalars (drop next list) ≡ true = ap (λ k. scalars (drop k list)) (sym sum) ∙ ap scalars (sym (drop-drop n (index + 1) list)) ∙ scalars_behind n behind others in
    let found =
    c.join_marks.ensures.found weights d (take n behind) said c.in-Some.ensures.0 longest.stands (longest.word weights d said others) (scalars_front n behind others) left in
    subst (λ j. IsFoundAs canonical weights (pools_of c.args.entry.source.now) d j c.join_marks.result c.join_marks.new.list)
    (ap (λ k. joining canonical weights (d ∷ take n behind) [] (drop k (placed list))) (sym sum) ∙ text_match_is canonical weights index n d list first (longest.count weights d said others))
    found
