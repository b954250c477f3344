use Rattle.std.proofs.Common.{◌≡◌, ◌≢◌, ◌-◌, ◌%◌, ◌∷◌, ◌∙◌, [], arith, false, rules}
use Rattle.std.specs.Char.{IsScalar}
use Rattle.std.specs.Prelude.{◌==◌}
use Rattle.std.proofs.lemmas.Bool.Decides.{nat_tests}
use Rattle.icu_normalizer_core.specs.Canonical.{IsCanonical}
use Rattle.icu_collator_core.specs.ReadSources.{canonical_by}
use Rattle.icu_collator_core.proofs.readings.PrimariesLemmas.{three_more, two_more}
use Rattle.icu_collator_core.proofs.readings.SyllablePartLemmas.{full_letters, three_letters, three_pushed, two_letters, two_pushed}
use Rattle.icu_collator_core.proofs.checked.CheckedTables.syllable_primaries.Goals as goal

pub returns-then-index-eq0 : goal.returns-then-index-eq0
returns-then-index-eq0 c = λ old.
    let source = c.args.self.now in
    let numeric = c.args.numeric in
    let ok : IsCanonical (canonical_by source) = search rules in
    let scalar : IsScalar c.args.c = search rules in
    let full : (canonical_by source).full c.args.c ≡ c.letter-leading.result ∷ c.letter-vowel.result ∷ [] =
    rw (c.letter-leading.ensures, c.letter-vowel.ensures)
    (full_letters (canonical_by source) ok.decomposing c.args.c scalar c.requires ∙ two_letters c.args.c c.if-index-eq0.true) in
    let first = c.in_ok-first.ensures in
    let second = c.in_ok-second.ensures in
    let one = first.primary old in
    let two = second.primary one.0 in (
      two.0,
      record {
        pushed = two_pushed source numeric c.args.c c.args.before ok scalar c.letter-leading.result c.letter-vowel.result c.in_ok-first.first.class c.in_ok-second.second.class
            old one.0 two.0 full first.alone one.1.pushed second.alone two.1.pushed;
        primaries = two_more source numeric c.letter-leading.result c.letter-vowel.result c.args.before old one.0 two.0 c.in_ok-first.first c.in_ok-second.second
            one.1 first.second first.third two.1 second.second second.third;
      },
    )

pub returns : goal.returns
returns c = λ old.
    let source = c.args.self.now in
    let numeric = c.args.numeric in
    let ok : IsCanonical (canonical_by source) = search rules in
    let scalar : IsScalar c.args.c = search rules in
    let some : (c.args.c - 0xac00) % 28 ≢ 0 = c.if-index-eq0.false in
    let test : ((c.args.c - 0xac00) % 28 == 0) ≡ false = grind (arith, nat_tests) in
    let full : (canonical_by source).full c.args.c ≡ c.letter-leading.result ∷ c.letter-vowel.result ∷ c.letter-trailing.result ∷ [] =
    rw (c.letter-leading.ensures, c.letter-vowel.ensures, c.letter-trailing.ensures)
    (full_letters (canonical_by source) ok.decomposing c.args.c scalar c.requires ∙ three_letters c.args.c test) in
    let first = c.in_ok-first.ensures in
    let second = c.in_ok-second.ensures in
    let third = c.in_ok-third.ensures in
    let one = first.primary old in
    let two = second.primary one.0 in
    let three = third.primary two.0 in (
      three.0,
      record {
        pushed = three_pushed source numeric c.args.c c.args.before ok scalar c.letter-leading.result c.letter-vowel.result c.letter-trailing.result
            c.in_ok-first.first.class c.in_ok-second.second.class c.in_ok-third.third.class old one.0 two.0 three.0 full first.alone one.1.pushed
            second.alone two.1.pushed third.alone three.1.pushed;
        primaries = three_more source numeric c.letter-leading.result c.letter-vowel.result c.letter-trailing.result c.args.before old one.0 two.0 three.0
            c.in_ok-first.first c.in_ok-second.second c.in_ok-third.third one.1 first.second first.third two.1 second.second second.third three.1 third.second third.third;
      },
    )
