use Rattle.std.proofs.Common.{inl, inr, refl, sym, ◌∙◌, ⊎_elim}
use Rattle.std.proofs.lemmas.Bool.{false≢true}
use Rattle.std.proofs.lemmas.Result.{IfOk-weaker}
use Rattle.collate_mapping_rules.proofs.full_lists.is_badly_mapped.Goals as goal

pub returns-then-not-is_mapped : goal.returns-then-not-is_mapped
returns-then-not-is_mapped c = (
  λ t. absurd (false≢true t),
  λ bad. absurd (false≢true (sym (sym c.is_mapped.ensures ∙ c.if-not-is_mapped.true) ∙ bad.0)),
)

pub returns-then-is_built_in : goal.returns-then-is_built_in
returns-then-is_built_in c = (
  λ t. absurd (false≢true t),
  λ bad. absurd (false≢true (sym bad.1 ∙ (sym c.is_built_in.ensures ∙ c.if-is_built_in.true))),
)

pub returns-then-is_bad : goal.returns-then-is_bad
returns-then-is_bad c = (
  λ t. (sym c.is_mapped.ensures ∙ c.if-not-is_mapped.false, sym c.is_built_in.ensures ∙ c.if-is_built_in.false, inl (c.in_ok-is_bad.ensures.0 c.if-is_bad.true)),
  λ bad. refl,
)

pub returns : goal.returns
returns c =
    IfOk-weaker c.has_bad_list-2.result _ _
    (λ b tells. (
      λ t. (sym c.is_mapped.ensures ∙ c.if-not-is_mapped.false, sym c.is_built_in.ensures ∙ c.if-is_built_in.false, inr (tells.0 t)),
      λ bad. ⊎_elim (λ canonical. absurd (false≢true (sym c.if-is_bad.false ∙ c.in_ok-is_bad.ensures.1 canonical))) (λ all. tells.1 all) bad.2,
    ))
    c.has_bad_list-2.ensures
