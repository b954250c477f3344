use Rattle.std.proofs.Common.{◌≡◌, ◌++◌, ◌∙◌, ◌<◌, Option, ℕ, ap, refl, rules, subst, sym}
use Rattle.std.specs.Prelude.{IfSome}
use mathlib.Core.Bool.{true≢false}
use Rattle.icu_collator.specs.KeyBytes.{with_runs}
use Rattle.icu_collator.specs.KeyCodes.{code_of, rank_limit}
use Rattle.icu_collator.specs.LevelLists.{counted_list, counted_of, tertiaries_by, tertiary_bound}
use Rattle.icu_collator.specs.Levels.{tertiary_at}
use Rattle.icu_collator.proofs.lists.BoundLemmas.{tertiary_small}
use Rattle.icu_collator.proofs.key_writing.KeyWrittenLemmas.{plain_code}
use Rattle.icu_collator.proofs.key_bytes.levels.write_tertiaries.Goals as goal

pub write_given_runs-requires-clause-small : goal.write_given_runs-requires-clause-small
write_given_runs-requires-clause-small c = λ e w h sound.
    let is : w ≡ tertiary_at c.args.options.now (counted_of e) = search rules in
    let limit = c.tertiary_level-level.ensures.limit in
    subst (λ n. IfSome w (λ rank. rank < n)) (sym limit)
    (subst (λ (o : Option ℕ). IfSome o (λ rank. rank < tertiary_bound c.args.options.now)) (sym is) (tertiary_small c.args.options.now e sound))

pub write_given_runs-requires-2-clause-small : goal.write_given_runs-requires-2-clause-small
unfolding rank_limit
write_given_runs-requires-2-clause-small c = λ e w h sound. h.1.0

pub returns-then-has_case_bits : goal.returns-then-has_case_bits
returns-then-has_case_bits c =
    let ws = tertiaries_by c.args.options.now (counted_list c.args.variable_end c.args.elements.now) in
    c.in_ok-write_given_runs.ensures (tertiary_at c.args.options.now) (λ e w h. search rules) (λ e h. absurd (true≢false h.1))
    ∙ ap (λ code. c.args.key.now.items ++ with_runs code ws) c.tertiary_level-level.ensures.code

pub returns : goal.returns
unfolding code_of
returns c =
    let options = c.args.options.now in
    let ws = tertiaries_by options (counted_list c.args.variable_end c.args.elements.now) in
    let none = sym c.has_case_bits.ensures ∙ c.if-has_case_bits.false in
    c.in_ok-write_given_runs-2.ensures (tertiary_at options) (λ e w h. h.1.1 options none) (λ e h. h.1 refl options none)
    ∙ ap (λ code. c.args.key.now.items ++ with_runs code ws) (plain_code options none)
