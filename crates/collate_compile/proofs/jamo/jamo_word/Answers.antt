use Rattle.std.proofs.Common.{◌≡◌, ℕ, ◌+◌, ◌^◌, ◌<◌, true, [], ◌∷◌, List, Option, MatchOption, map, subst, sym, ◌∙◌, arith}
use Rattle.std.specs.Prelude.{leb}
use Rattle.std.proofs.lemmas.Bool.{and_parts, cond-true, leb-true}
use Rattle.icu_normalizer_core.specs.BuiltIn.{is_jamo}
use Rattle.icu_collator_types.specs.declared.elements.Element.{Element}
use Rattle.icu_collator_core.specs.Defaults.{implicit_primary, jamo_primary}
use Rattle.collate_lines.specs.Record.{said}
use Rattle.collate_compile.specs.Compiled.{StatesAlone}
use Rattle.collate_compile.proofs.gathering.JamoLineLemmas.{jamo_one, record_fits}
use Rattle.collate_compile.proofs.jamo.jamo_word.Goals as goal

small_primary : (c : ℕ) → is_jamo c ≡ true → jamo_primary c + 0xc1 < 2 ^ 32
unfolding jamo_primary
small_primary c jamo = let last = leb-true c 0x11ff (and_parts (leb 0x1100 c) (leb c 0x11ff) jamo).1 in omega (arith, last)

pub lone_word-requires-clause-fit : goal.lone_word-requires-clause-fit
lone_word-requires-clause-fit c =
    record_fits (map said c.args.noted.now.lines.now) c.requires.accepted [] (c.args.c ∷ []) c.in-Some.elements.now (sym c.in-Some.ensures)

pub lone_word-requires-clause-one : goal.lone_word-requires-clause-one
lone_word-requires-clause-one c =
    jamo_one (map said c.args.noted.now.lines.now) c.args.c c.requires.jamo c.requires.accepted c.in-Some.elements.now (sym c.in-Some.ensures)

pub overflow_add-result : goal.overflow_add-result
overflow_add-result c =
    let is = c.unranged_primary.ensures ∙ cond-true (is_jamo c.args.c) (jamo_primary c.args.c) (implicit_primary c.args.c) c.requires.jamo
    in omega (arith, is, small_primary c.args.c c.requires.jamo)

pub returns-in-None : goal.returns-in-None
returns-in-None c =
    let is = c.unranged_primary.ensures ∙ cond-true (is_jamo c.args.c) (jamo_primary c.args.c) (implicit_primary c.args.c) c.requires.jamo
    in let word = c.unranged_primary.result + 0xc1
    in (
      omega (arith, is, small_primary c.args.c c.requires.jamo),
      subst (λ (o : Option (List Element)). MatchOption o (word ≡ jamo_primary c.args.c + 0xc1) (StatesAlone word)) c.in-None.ensures (omega (arith, is)),
    )
