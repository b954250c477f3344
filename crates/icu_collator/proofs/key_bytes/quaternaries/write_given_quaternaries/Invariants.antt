use Rattle.std.proofs.Common.{◌≡◌, ◌≤◌, ◌++◌, drop, filter_map, take, true}
use Rattle.std.specs.List.{list_all}
use Rattle.std.specs.Prelude.{option_map}
use Rattle.icu_collator.specs.Collators.{source_collation}
use Rattle.icu_collator.specs.KeyBytes.{behind_run, with_runs}
use Rattle.icu_collator.specs.KeyCodes.{code_of, gives_small_place}
use Rattle.icu_collator.specs.LevelLists.{counted_list}
use Rattle.icu_collator.specs.Levels.{quaternary_at}
use Rattle.icu_collator.specs.Order.{quaternary_rank}
use Rattle.icu_collator.specs.declared.key_bytes.run_level.RunLevel.TheVariants.{Quaternaries}
use Rattle.icu_collator.proofs.key_bytes.quaternaries.write_given_quaternaries.Given as goal

abbrev pub invariant-loop-element : goal.invariant-loop-element
invariant-loop-element l = record {
  count : l.pending ≤ l.element-index;
  small : list_all (λ e. gives_small_place (quaternary_at (source_collation l.checked) e)) (counted_list l.variable_end (take l.element-index l.elements)) ≡ true;
  level : l.key.items ++ behind_run (code_of Quaternaries) l.pending
      (filter_map (λ e. option_map quaternary_rank (quaternary_at (source_collation l.checked) e)) (counted_list l.variable_end (drop l.element-index l.elements)))
      ≡ l.initial.key.items ++ with_runs (code_of Quaternaries)
      (filter_map (λ e. option_map quaternary_rank (quaternary_at (source_collation l.checked) e)) (counted_list l.variable_end l.elements));
}
