use Rattle.icu_collections_sets.proofs.texts.JsonLemmas.{written_once, written_taken}
use Rattle.icu_collections_sets.proofs.json.laws.written_list_reads_back.Goals as goal

pub returns-clause-same : goal.returns-clause-same
returns-clause-same c = written_once

pub returns-clause-taken : goal.returns-clause-taken
returns-clause-taken c = written_taken
