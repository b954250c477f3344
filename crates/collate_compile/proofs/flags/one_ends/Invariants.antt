use Rattle.std.proofs.Common.{◌≡◌, drop, map}
use Rattle.std.specs.List.{list_any}
use Rattle.icu_normalizer_core.specs.BorrowedMeaning.{borrowed_meaning}
use Rattle.icu_collator_core.specs.ContextRules.{ends_in_mark}
use Rattle.collate_words.specs.Entries.{said_beside}
use Rattle.collate_words.specs.Sayings.{texts_beside}
use Rattle.collate_compile.proofs.flags.one_ends.Given as goal

abbrev pub invariant-loop-suffix : goal.invariant-loop-suffix
invariant-loop-suffix l =
    list_any (ends_in_mark (borrowed_meaning l.canonical))
    (texts_beside (map said_beside (drop l.suffix-index l.suffixes)))
    ≡ list_any (ends_in_mark (borrowed_meaning l.canonical)) (texts_beside (map said_beside l.suffixes))
