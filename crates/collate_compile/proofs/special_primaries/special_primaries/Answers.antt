use Rattle.std.proofs.Common.{◌≡◌, ℕ, ◌+◌, List, ◌++◌, length, map, take, ap, subst, sym, arith, ◌∙◌}
use Rattle.icu_collator_core.specs.TableSettings.{is_compressible_in as is_compressible_by}
use Rattle.collate_lines.specs.Record.{said}
use Rattle.collate_rules.specs.SettingLines.{groups_of}
use Rattle.collate_compile.proofs.setting.LeadBitLemmas.{AreParts, four_groups, parts_all, parts_more, parts_none}
use Rattle.collate_compile.proofs.special_primaries.special_primaries.Goals as goal

pub loop-part-init : goal.loop-part-init
loop-part-init c =
    let lines = map said c.args.lines.now in
    let values = c.in_ok-extend_from_slice.ensures.items
    ∙ ap (λ (xs : List ℕ). xs ++ c.group_ends.result) c.new-values.ensures.items ∙ c.group_ends.ensures in
    subst (λ (vs : List ℕ). AreParts lines (groups_of lines) vs 0) (sym values)
    (parts_none lines (groups_of lines) (four_groups lines c.requires))

pub loop-part-preserved : goal.loop-part-preserved
loop-part-preserved c =
    let lines = map said c.args.lines.now in
    subst (λ (vs : List ℕ). AreParts lines (groups_of lines) vs (c.loop-part.part + 1))
    (sym {A = List ℕ} c.in_ok-push.ensures.items)
    (parts_more lines (groups_of lines) c.loop-part.values.items c.loop-part.part c.compressible_bits.result
    c.loop-part.invariant c.compressible_bits.ensures)

pub returns : goal.returns
returns c =
    let lines = map said c.args.lines.now in
    let values = c.loop-part.values.items in
    let same : c.in_ok-last_primaries.last_primaries ≡ values = c.in_ok-last_primaries.ensures
    ∙ c.as_slice.ensures.value in
    let sixteen : c.loop-part.part ≡ 16 = omega arith in
    let all = c.loop-part.invariant in
    let twenty : length values ≡ 20 = omega (arith, all.count) in
    record {
      count = ap length same ∙ twenty;
      groups = ap (take 4) same ∙ all.groups;
      numeric = c.numeric_lead.ensures;
      compressible = λ lead. ap (λ (vs : List ℕ). is_compressible_by vs lead) same
          ∙ parts_all lines (groups_of lines) values c.loop-part.part c.requires all sixteen lead;
    }
