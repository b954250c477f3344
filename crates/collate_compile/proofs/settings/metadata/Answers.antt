use Rattle.std.proofs.Common.{map}
use Rattle.collate_lines.specs.Record.{said}
use Rattle.collate_compile.proofs.setting.SettingBitLemmas.{settings_are}
use Rattle.collate_compile.proofs.settings.metadata.Goals as goal

pub returns-clause-settings : goal.returns-clause-settings
returns-clause-settings c =
    settings_are (map said c.args.lines.now) c.max_variable_bits-max_variable.result c.bit.result c.bit-2.result
    c.bit-3.result c.bit-4.result c.alternate_bit-alternate.result
    c.case_first_bits-case_first.result c.file_settings-settings.result c.args.is_tailored c.args.is_reordering
    c.drops_dot_above.result c.is_backward.result
    c.max_variable_bits-max_variable.ensures c.bit.ensures c.bit-2.ensures c.bit-3.ensures c.bit-4.ensures
    c.alternate_bit-alternate.ensures c.case_first_bits-case_first.ensures
    c.file_settings-settings.ensures c.drops_dot_above.ensures c.is_backward.ensures
