use Rattle.std.proofs.Common.{subst, []}
use Rattle.icu_normalizer_core.specs.BorrowedMeaning.{borrowed_meaning}
use Rattle.icu_collator_core.specs.TableMeaning.{weights_of}
use Rattle.icu_collator_core.specs.UnsafeWords.{IsUnsafeIn, IsUnsafeInTailoring}
use Rattle.icu_collator_core.specs.UnsafeCharacters.{IsUnsafeByRecords}
use Rattle.icu_collator_core.specs.WeightLists.{Grows}
use Rattle.icu_collator_core.proofs.apart.GrowthLemmas.{grown_same, grown_twice, listed}
use Rattle.icu_collator_core.proofs.unsafety.UnsafeTableLemmas.{all_unsafe}
use Rattle.icu_collator_core.proofs.unsafe_characters.unsafe_list.gather.Goals as goal

pub returns : goal.returns
returns c =
    let canonical = borrowed_meaning c.args.canonical in
    let tables = c.args.tables.now in
    let first = c.gather_in.new.characters.items in
    let after = c.gather_in_tailoring.new.characters.items in
    listed (IsUnsafeByRecords (weights_of canonical tables)) after
    (grown_same _ (IsUnsafeByRecords (weights_of canonical tables)) [] after (all_unsafe canonical tables c.requires)
    (grown_twice (IsUnsafeIn canonical tables tables.root) (IsUnsafeInTailoring canonical tables) [] first after
    (subst (λ items. Grows (IsUnsafeIn canonical tables tables.root) items first) c.new-characters.ensures.items c.in_ok-gather_in.ensures)
    c.in_ok-gather_in_tailoring.ensures))
