use Rattle.std.proofs.Common.{◌≡◌, ◌≢◌, ◌-◌, ◌%◌, ◌∷◌, ◌∙◌, [], arith, false, rules}
use Rattle.std.specs.Char.{IsScalar}
use Rattle.std.specs.Prelude.{◌==◌}
use Rattle.std.proofs.lemmas.Bool.Decides.{nat_tests}
use Rattle.icu_normalizer_core.specs.Canonical.{IsCanonical}
use Rattle.icu_collator_core.specs.ReadSources.{canonical_by}
use Rattle.icu_collator_core.proofs.readings.SyllablePartLemmas.{full_letters, three_letters, three_pushed, two_letters, two_pushed}
use Rattle.icu_collator_core.proofs.checked.CheckedTables.push_syllable.Goals as goal

pub returns-then-index-eq0 : goal.returns-then-index-eq0
returns-then-index-eq0 g c =
    let source = c.args.self.now in
    let ok : IsCanonical (canonical_by source) = search rules in
    let scalar : IsScalar c.args.c = search rules in
    let full : (canonical_by source).full c.args.c ≡ c.letter-leading.result ∷ c.letter-vowel.result ∷ [] =
    rw (c.letter-leading.ensures, c.letter-vowel.ensures)
    (full_letters (canonical_by source) ok.decomposing c.args.c scalar c.requires ∙ two_letters c.args.c c.if-index-eq0.true) in
    two_pushed source c.args.numeric c.args.c c.args.before ok scalar c.letter-leading.result c.letter-vowel.result c.in_ok-first.first c.in_ok-second.second
    c.args.elements.now.items c.push_letter.new.elements.items c.push_letter-2.new.elements.items full c.in_ok-first.ensures.alone c.in_ok-first.ensures.pushed
    c.in_ok-second.ensures.alone c.in_ok-second.ensures.pushed

pub returns : goal.returns
returns g c =
    let source = c.args.self.now in
    let ok : IsCanonical (canonical_by source) = search rules in
    let scalar : IsScalar c.args.c = search rules in
    let some : (c.args.c - 0xac00) % 28 ≢ 0 = c.if-index-eq0.false in
    let test : ((c.args.c - 0xac00) % 28 == 0) ≡ false = grind (arith, nat_tests) in
    let full : (canonical_by source).full c.args.c ≡ c.letter-leading.result ∷ c.letter-vowel.result ∷ c.letter-trailing.result ∷ [] =
    rw (c.letter-leading.ensures, c.letter-vowel.ensures, c.letter-trailing.ensures)
    (full_letters (canonical_by source) ok.decomposing c.args.c scalar c.requires ∙ three_letters c.args.c test) in
    three_pushed source c.args.numeric c.args.c c.args.before ok scalar c.letter-leading.result c.letter-vowel.result c.letter-trailing.result
    c.in_ok-first.first c.in_ok-second.second c.in_ok-third.third c.args.elements.now.items c.push_letter.new.elements.items
    c.push_letter-2.new.elements.items c.push_letter-3.new.elements.items full c.in_ok-first.ensures.alone c.in_ok-first.ensures.pushed
    c.in_ok-second.ensures.alone c.in_ok-second.ensures.pushed c.in_ok-third.ensures.alone c.in_ok-third.ensures.pushed
