-- Compiled tables say what their lines say.
use Rattle.collate_compile.proofs.laws.CompiledSamenessLemmas.{same_settings, same_weights}
use Rattle.collate_compile.proofs.laws.compiled_tables_mean_their_lines.Goals as goal

pub returns : goal.returns
returns c = record { weights = same_weights; settings = same_settings }
