-- Compiled tables move whole leads.
use Rattle.collate_compile.proofs.laws.CompiledSettingLemmas.{whole_leads}
use Rattle.collate_compile.proofs.laws.compiled_tables_move_whole_leads.Goals as goal

pub returns : goal.returns
returns c = λ records tables soundly compiled. whole_leads records soundly tables compiled
