-- The order of faults: each rule from rank 1 on has a rank of its own.
use Rattle.std.proofs.Common.{◌≡◌, ℕ, ◌<◌, [], ◌∷◌, get_or, refl, sym, ap, ◌∙◌, arith}
use Rattle.collate_lines.specs.declared.rule.Rule.{Rule}
use Rattle.collate_lines.specs.declared.rule.Rule.TheVariants.{Grammar, Limit, Set, C1, C2, C3, C4, C5, C6, C7, C8, C9, V1, V2, V3, V4, V5, V6, V7, V8, V9, V10, V11, V12, V13, V14, V15}
use Rattle.collate_rules.specs.Rules.{rank}

-- the rules in the order of faults
abbrev rule_at : ℕ → Rule
rule_at n = get_or (Grammar ∷ Limit ∷ C1 ∷ C2 ∷ C3 ∷ C4 ∷ C5 ∷ C6 ∷ C7 ∷ C8 ∷ C9 ∷ V1 ∷ V2 ∷ V3 ∷ V4 ∷ V5 ∷ V6 ∷ V7 ∷ V8 ∷ V9 ∷ V10 ∷ V11 ∷ V12 ∷ V13 ∷ V15 ∷ Set ∷ []) n Grammar

rule_at-rank : (rule : Rule) → 0 < rank rule → rule_at (rank rule) ≡ rule
rule_at-rank Grammar h = absurd (omega arith)
rule_at-rank V14 h = absurd (omega arith)
rule_at-rank Limit h = refl
rule_at-rank Set h = refl
rule_at-rank C1 h = refl
rule_at-rank C2 h = refl
rule_at-rank C3 h = refl
rule_at-rank C4 h = refl
rule_at-rank C5 h = refl
rule_at-rank C6 h = refl
rule_at-rank C7 h = refl
rule_at-rank C8 h = refl
rule_at-rank C9 h = refl
rule_at-rank V1 h = refl
rule_at-rank V2 h = refl
rule_at-rank V3 h = refl
rule_at-rank V4 h = refl
rule_at-rank V5 h = refl
rule_at-rank V6 h = refl
rule_at-rank V7 h = refl
rule_at-rank V8 h = refl
rule_at-rank V9 h = refl
rule_at-rank V10 h = refl
rule_at-rank V11 h = refl
rule_at-rank V12 h = refl
rule_at-rank V13 h = refl
rule_at-rank V15 h = refl

-- a rank from 1 on tells the rule
pub same_from_rank : (rule other : Rule) → 0 < rank rule → rank rule ≡ rank other → rule ≡ other
same_from_rank rule other h e =
    let g : 0 < rank other = omega arith in
    sym (rule_at-rank rule h) ∙ ap rule_at e ∙ rule_at-rank other g

-- there are 26 ranks
pub rank_below : (rule : Rule) → rank rule < 26
rank_below Grammar = omega arith
rank_below rule = omega arith
