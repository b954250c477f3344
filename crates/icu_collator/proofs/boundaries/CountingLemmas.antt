-- Elements that count whole, by their primaries, and what two of them decide.
use Rattle.std.proofs.Common.{◌≡◌, ℕ, ◌*◌, ◌^◌, ◌<◌, ◌==◌, Bool, true, false, cond, ◌&&◌, ltb, get_or, refl, sym, ap, ◌∙◌}
use Rattle.std.specs.declared.cmp.Ordering.TheVariants.{Less, Greater}
use Rattle.icu_collator_types.specs.declared.options.ResolvedCollatorOptions.{ResolvedCollatorOptions}
use Rattle.icu_collator_types.specs.Options.{group_index, is_shifted}
use Rattle.icu_collator_core.specs.Collation.{Collation}
use Rattle.icu_collator_core.specs.Pools.{element_of}
use Rattle.icu_collator.specs.Boundaries.{CountsWhole, Decide, reordered_primary}
use Rattle.icu_collator.proofs.keys.CodesLemmas.{greater_is, less_is}

fixed_by : (shifted : Bool) (primary limit : ℕ) → (ltb 0x02000000 primary && ltb primary (cond shifted limit 0)) ≡ false
    → (shifted && ltb 0x02000000 primary && ltb primary limit) ≡ false
fixed_by true primary limit h = h
fixed_by false primary limit h = refl

pub whole_by : (collation : Collation) (options : ResolvedCollatorOptions) (bits primary end : ℕ) → primary ≡ (element_of bits).primary
    → ((ltb 0x02000000 primary && ltb primary end) ≡ false) × ((primary == 0) ≡ false)
    → end ≡ cond (is_shifted options.alternate_handling) (get_or collation.groups (group_index options.max_variable) 0 * 2 ^ 16) 0
    → CountsWhole collation options bits
whole_by collation options bits primary end is h e =
    let limit = get_or collation.groups (group_index options.max_variable) 0 * 2 ^ 16
    in let same : (ltb 0x02000000 primary && ltb primary (cond (is_shifted options.alternate_handling) limit 0)) ≡ false =
    ap (λ (k : ℕ). ltb 0x02000000 primary && ltb primary k) (sym e) ∙ h.0
    in record {
      fixed = ap (λ (p : ℕ). is_shifted options.alternate_handling && ltb 0x02000000 p && ltb p limit) (sym is) ∙ fixed_by (is_shifted options.alternate_handling) primary limit same;
      filled = ap (λ (p : ℕ). p == 0) (sym is) ∙ h.1;
    }

pub decide_less : (collation : Collation) (options : ResolvedCollatorOptions) (bits other first second : ℕ)
    → CountsWhole collation options bits → CountsWhole collation options other
    → first ≡ reordered_primary collation bits → second ≡ reordered_primary collation other → first < second
    → Decide collation options bits other Less
decide_less collation options bits other first second h g e f below =
    record {
      left_counts = h;
      right_counts = g;
      answer_is = sym (less_is first second below) ∙ cc (e, f);
      decided = λ same. cc;
    }

pub decide_greater : (collation : Collation) (options : ResolvedCollatorOptions) (bits other first second : ℕ)
    → CountsWhole collation options bits → CountsWhole collation options other
    → first ≡ reordered_primary collation bits → second ≡ reordered_primary collation other → second < first
    → Decide collation options bits other Greater
decide_greater collation options bits other first second h g e f above =
    record {
      left_counts = h;
      right_counts = g;
      answer_is = sym (greater_is second first above) ∙ cc (e, f);
      decided = λ same. cc;
    }
