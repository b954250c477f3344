use Rattle.std.proofs.Common.{◌≡◌, ℕ, subst, true}
use Rattle.std.specs.List.{list_all}
use Rattle.icu_collator.specs.Collators.{source_collation}
use Rattle.icu_collator.specs.LevelLists.{counted_list, has_sound_case}
use Rattle.icu_collator.specs.Shifted.{counted}
use Rattle.icu_collator.proofs.key_bytes.whole.write_whole_key.Goals as goal

pub write_levels-requires : goal.write_levels-requires
write_levels-requires c =
    subst (λ (n : ℕ). list_all has_sound_case (counted_list n c.args.elements.now) ≡ true) c.if-variable_end-eq0.true c.requires

pub returns-then-variable_end-eq0 : goal.returns-then-variable_end-eq0
returns-then-variable_end-eq0 c = λ es are.
    c.in_ok-write_levels.ensures es
    (subst (λ (n : ℕ). counted_list n c.args.elements.now ≡ counted (source_collation c.args.checked.now) c.args.options.now es) c.if-variable_end-eq0.true are)
