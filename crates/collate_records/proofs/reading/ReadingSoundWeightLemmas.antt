-- The weights of accepted lines are sound.
use Rattle.std.proofs.Common.{List}
use Rattle.std.proofs.lemmas.List.Elements.{All-weaker}
use Rattle.icu_collator_core.specs.WeightRules.{AreSoundWeights}
use Rattle.collate_lines.specs.declared.rule.Rule.TheVariants.{V1, V2, V3, V4, V5, V6}
use Rattle.collate_lines.specs.Record.{Record}
use Rattle.collate_rules.specs.GivenWeights.{KeepsWidths}
use Rattle.collate_rules.specs.Meaning.{weights_of}
use Rattle.collate_rules.proofs.given.GrammarLemmas.{line_keeps_widths}
use Rattle.collate_rules.proofs.given.GivenSoundLemmas.{sound_weights}
use Rattle.collate_rules.specs.Accepted.{AreAccepted, IsSaid}

-- what a line in the grammar says is of its widths
said_keeps : (given : Record) → IsSaid given → KeepsWidths given
said_keeps given said = line_keeps_widths said.0 given said.1

pub accepted_weights : (records : List Record) → AreAccepted records → AreSoundWeights (weights_of records)
accepted_weights records accepted =
    sound_weights records (All-weaker IsSaid KeepsWidths said_keeps records accepted.in_grammar)
    (record {
      kinds = accepted.keep_rules V1;
      primaries = accepted.keep_rules V2;
      secondaries = accepted.keep_rules V3;
      tertiaries = accepted.keep_rules V4;
      apart = accepted.keep_rules V5;
      ranges = accepted.keep_rules V6;
    })
