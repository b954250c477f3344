use Rattle.std.proofs.Common.{◌≡◌, Some, rules}
use Rattle.icu_normalizer_core.specs.BorrowedMeaning.{borrowed_meaning}
use Rattle.icu_collator_core.specs.UnsafeWords.{IsUnsafeIn, IsUnsafeInTailoring}
use Rattle.icu_collator_core.proofs.apart.GrowthLemmas.{grown_same}
use Rattle.icu_collator_core.proofs.apart.ApartSpellingLemmas.{there_is}
use Rattle.icu_collator_core.proofs.unsafe_characters.walk.gather_in_tailoring.Goals as goal

pub returns : goal.returns
returns c =
    let canonical = borrowed_meaning c.args.canonical in
    let tables = c.args.tables.now in
    let source = c.in-Some.source in
    let is : tables.tailoring ≡ Some source = search rules in
    grown_same (IsUnsafeIn canonical tables source) (IsUnsafeInTailoring canonical tables) c.args.characters.now.items c.gather_in.new.characters.items
    (λ d. there_is (λ one. IsUnsafeIn canonical tables one d) tables.tailoring source is) c.in_ok-gather_in.ensures
