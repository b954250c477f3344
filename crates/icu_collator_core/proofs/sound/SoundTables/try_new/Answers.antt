use Rattle.std.proofs.Common.{subst}
use Rattle.std.specs.Prelude.{MatchResult}
use Rattle.icu_normalizer_core.specs.BorrowedMeaning.{borrowed_meaning}
use Rattle.icu_normalizer_core.specs.CanonicalMeaning.{meaning}
use Rattle.icu_collator_core.specs.Acceptance.{IsAccepted, IsRefusal}
use Rattle.icu_collator_core.specs.TableMeaning.{weights_of}
use Rattle.icu_collator_core.specs.UnsafeWords.{AreUnsafeByRecords}
use Rattle.icu_collator_core.proofs.sound.SoundTables.try_new.Goals as goal

pub returns : goal.returns
returns c =
    let canonical = borrowed_meaning c.as_borrowed.result in
    let refusal = subst
    (λ r. MatchResult r (λ unsafe_characters. IsAccepted canonical c.args.tables × AreUnsafeByRecords (weights_of canonical c.args.tables) unsafe_characters.items) (IsRefusal canonical c.args.tables))
    c.in-Err.is c.judge_unsafe.ensures in
    subst (λ t. IsRefusal (meaning t) c.args.tables c.in-Err.fault) c.as_borrowed.ensures.same refusal
