use Rattle.std.proofs.Common.{subst}
use Rattle.std.specs.List.{Contains}
use Rattle.icu_collator_core.specs.ElementLists.{unpacked}
use Rattle.icu_collator_core.specs.PrefixFaults.{Spells}
use Rattle.icu_collator_core.specs.TableMeaning.{pools_of, secondary_word}
use Rattle.icu_collator_core.specs.WeightLists.{AreSpelling, Grows, IsDiacriticWord, IsSpelledByTables}
use Rattle.icu_collator_core.proofs.apart.GrowthLemmas.{grown_same, listed, listed_more}
use Rattle.icu_collator_core.proofs.apart.ApartSpellingLemmas.{given_by_both}
use Rattle.icu_collator_core.proofs.check.apart.decision.gather_fixed.Goals as goal

pub returns : goal.returns
returns c =
    let tables = c.args.tables.now in
    let pools = pools_of tables.root in
    let marks = c.gather_diacritics.new.words.items in
    let words = c.gather_jamo.new.words.items in
    let before = unpacked c.args.elements.now.items in
    let after = unpacked c.gather_spelled.new.elements.items in
    let of_marks = listed (IsDiacriticWord tables) marks
    (subst (λ items. Grows (IsDiacriticWord tables) items marks) c.new-words.ensures.items c.in_ok-gather_diacritics.ensures) in
    let told = listed_more (IsDiacriticWord tables) (Contains tables.jamo.ce32s) marks words of_marks c.in_ok-gather_jamo.ensures in
    grown_same (AreSpelling pools words) (IsSpelledByTables tables) before after
    (given_by_both (Spells pools) secondary_word words tables.diacritics.secondaries tables.jamo.ce32s told)
    (subst (λ list. Grows (AreSpelling pools list) before after) c.as_slice.ensures.value c.in_ok-gather_spelled.ensures)
