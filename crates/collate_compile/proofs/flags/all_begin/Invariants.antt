use Rattle.std.proofs.Common.{◌≡◌, drop, map}
use Rattle.std.specs.List.{list_all}
use Rattle.icu_normalizer_core.specs.BorrowedMeaning.{borrowed_meaning}
use Rattle.icu_collator_core.specs.ContextRules.{begins_with_mark}
use Rattle.collate_words.specs.Entries.{said_beside}
use Rattle.collate_words.specs.Sayings.{texts_beside}
use Rattle.collate_compile.proofs.flags.all_begin.Given as goal

abbrev pub invariant-loop-suffix : goal.invariant-loop-suffix
invariant-loop-suffix l =
    list_all (begins_with_mark (borrowed_meaning l.canonical))
    (texts_beside (map said_beside (drop l.suffix-index l.suffixes)))
    ≡ list_all (begins_with_mark (borrowed_meaning l.canonical)) (texts_beside (map said_beside l.suffixes))
