use Rattle.std.proofs.Common.{refl}
use Rattle.icu_normalizer.proofs.composed.ComposerLemmas.{coming_finish, coming_done}
use Rattle.icu_normalizer.proofs.composing.composer.Composer.finish.Goals as goal

pub returns-clause-output : goal.returns-clause-output
returns-clause-output c = coming_finish c.args.self.now _ c.take.result c.requires refl c.take.ensures.value c.take.ensures.after refl refl

pub returns-clause-done : goal.returns-clause-done
returns-clause-done c = coming_done c.args.self.now _ c.take.result c.requires refl c.take.ensures.value c.take.ensures.after refl refl
