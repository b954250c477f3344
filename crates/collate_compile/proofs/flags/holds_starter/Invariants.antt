use Rattle.std.proofs.Common.{◌≡◌, drop}
use Rattle.icu_normalizer_core.specs.BorrowedMeaning.{borrowed_meaning}
use Rattle.icu_collator_core.specs.ContextRules.{holds_starter}
use Rattle.collate_compile.proofs.flags.holds_starter.Given as goal

abbrev pub invariant-loop-character : goal.invariant-loop-character
invariant-loop-character l =
    holds_starter (borrowed_meaning l.canonical) (drop l.character-index l.characters) ≡ holds_starter
    (borrowed_meaning l.canonical) l.characters
