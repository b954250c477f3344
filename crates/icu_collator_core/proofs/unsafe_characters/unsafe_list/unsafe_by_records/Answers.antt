use Rattle.std.proofs.Common.{◌≡◌, eqb}
use Rattle.std.specs.List.{dedup}
use Rattle.std.proofs.lemmas.List.Filters.{dedup_is}
use Rattle.icu_normalizer_core.specs.BorrowedMeaning.{borrowed_meaning}
use Rattle.icu_collator_core.specs.TableMeaning.{weights_of}
use Rattle.icu_collator_core.specs.UnsafeCharacters.{IsUnsafeByRecords}
use Rattle.icu_collator_core.proofs.unsafety.RisingLemmas.{listed_once, rising_once}
use Rattle.icu_collator_core.proofs.unsafe_characters.unsafe_list.unsafe_by_records.Goals as goal

pub returns : goal.returns
returns c =
    let Unsafe = IsUnsafeByRecords (weights_of (borrowed_meaning c.args.canonical) c.args.tables.now) in
    let items = c.in_ok-characters.characters.items in
    let sorted = c.sort.new.self.items in
    let after = c.dedup.new.self.items in
    let once : after ≡ dedup eqb sorted = dedup_is eqb sorted after c.dedup.ensures.filtered in
    record {
      all = listed_once Unsafe items sorted after c.in_ok-characters.ensures c.sort.ensures.permutation c.in_ok-sort.ensures.sorted once;
      rising = rising_once Unsafe items sorted after c.in_ok-characters.ensures c.sort.ensures.permutation c.in_ok-sort.ensures.sorted once;
    }
