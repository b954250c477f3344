use Rattle.std.proofs.Common.{◌≡◌, ℕ, false, List, MatchOption, map, rules, subst}
use Rattle.collate_lines.specs.declared.record.Record.{Record as Line}
use Rattle.collate_lines.specs.Record.{said}
use Rattle.collate_compile.specs.Compiled.{AreJamoOf}
use Rattle.collate_compile.specs.Layers.{IsRootOf, IsTailoringOf}
use Rattle.collate_compile.specs.LineSayings.{is_tailored}
use Rattle.collate_compile.proofs.tables.compile_tables.Goals as goal

pub returns-clause-compiled : goal.returns-clause-compiled
returns-clause-compiled c =
    let same : c.in_ok-noted.noted.lines.now ≡ c.args.lines.now = c.in_ok-noted.ensures in
    record {
      root = subst (λ (ls : List Line). IsRootOf (map said ls) c.in_ok-root.root) same c.in_ok-root.ensures.root;
      tailoring = subst (λ (ls : List Line). MatchOption c.in_ok-tailoring.tailoring
          ((q : ℕ) → is_tailored (map said ls) q ≡ false) (IsTailoringOf (map said ls)))
          same c.in_ok-tailoring.ensures.tailoring;
      jamo = subst (λ (ls : List Line). AreJamoOf (map said ls) c.in_ok-jamo_words.field-0) same c.in_ok-jamo_words.ensures;
      no_diacritics = search rules;
      settings = search rules;
      tailored = search rules;
      is_reordering = search rules;
      special_primaries = search rules;
      reordering = search rules;
    }
