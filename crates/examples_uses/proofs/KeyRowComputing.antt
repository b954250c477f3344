-- One word that opens every definition between a closed term and its value: those of orders, and those of keys.
use Rattle.icu_collator.specs.KeyBytes.{codes_from, primary_code, run_bytes, behind_run, paired_halves, difference_bytes, key_bytes}
use Rattle.examples_uses.proofs.WorkedComputing.{computing as ordering}

unfoldable pub computing : Unit {0}
unfolding ordering
    codes_from primary_code run_bytes behind_run paired_halves difference_bytes key_bytes
computing = tt
