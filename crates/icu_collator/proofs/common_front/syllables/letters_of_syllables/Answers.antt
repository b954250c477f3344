use Rattle.std.proofs.Common.{◌≡◌, ◌≢◌, arith}
use Rattle.icu_collator.proofs.boundaries.LetterLemmas.{leading, vowel, leading_differ, vowels_differ, trailing_differ}
use Rattle.icu_collator.proofs.common_front.syllables.letters_of_syllables.Goals as goal

pub returns-then-first-second : goal.returns-then-first-second
returns-then-first-second c =
    let left = c.args.left in
    let right = c.args.right in
    let differ : leading left ≢ leading right = omega (arith, c.if-first-second.true) in
    leading_differ left right c.letter.result c.letter-then-first-second.result c.requires.left c.requires.right
    c.letter.ensures c.letter-then-first-second.ensures differ

pub returns-then-first-second-2 : goal.returns-then-first-second-2
returns-then-first-second-2 c =
    let left = c.args.left in
    let right = c.args.right in
    let same : leading left ≡ leading right = omega (arith, c.if-first-second.false) in
    let differ : vowel left ≢ vowel right = omega (arith, c.if-first-second-2.true) in
    vowels_differ left right c.letter-then-first-second-2.result c.letter-then-first-second-2-2.result c.requires.left c.requires.right
    c.letter-then-first-second-2.ensures c.letter-then-first-second-2-2.ensures same differ

pub returns : goal.returns
returns c =
    let left = c.args.left in
    let right = c.args.right in
    let same : leading left ≡ leading right = omega (arith, c.if-first-second.false) in
    let alike : vowel left ≡ vowel right = omega (arith, c.if-first-second-2.false) in
    trailing_differ left right c.letter-2.result c.letter-3.result c.requires.left c.requires.right
    c.letter-2.ensures c.letter-3.ensures same alike c.if-first-eq0.false c.if-second-eq0.false
