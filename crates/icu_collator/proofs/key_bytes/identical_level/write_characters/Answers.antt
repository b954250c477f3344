use Rattle.std.proofs.Common.{◌≡◌, ◌++◌, ◌∙◌, ◌≤◌, length, get_or, ap, arith}
use Rattle.std.proofs.lemmas.Grind.{get_or_default_zero}
use Rattle.icu_collator.specs.KeyBytes.{character_code, character_level, last_character}
use Rattle.icu_collator.proofs.key_writing.CodesWrittenLemmas.{codes_go_on, codes_end}
use Rattle.icu_collator.proofs.key_bytes.identical_level.write_characters.Goals as goal

pub loop-c-preserved : goal.loop-c-preserved
loop-c-preserved c =
    let list = c.args.list.now in
    let i = c.loop-c.c-index in
    let inside = c.loop-c-test.true in
    let here : c.from-c.result ≡ get_or list i 0 =
    c.from-c.ensures ∙ c.from.ensures ∙ c.c-item.is ∙ get_or_default_zero list i c.c-item.result inside in
    let level =
    codes_go_on character_code last_character c.loop-c.last c.last_character-last.result list i (c.args.key.now.items ++ character_level list)
    c.loop-c.key.items c.write_character.new.key.items inside c.loop-c.invariant.level
    (c.in_ok-write_character.ensures ∙ ap (λ x. c.loop-c.key.items ++ character_code c.loop-c.last x) here)
    (c.last_character-last.ensures.last c.loop-c.last ∙ ap (last_character c.loop-c.last) here) in
    record { bounded = c.last_character-last.ensures.bounded; level = level }

pub returns : goal.returns
returns c =
    let list = c.args.list.now in
    let past : length list ≤ c.loop-c.c-index = let end = c.loop-c-test.false in omega (arith, end) in
    codes_end character_code last_character c.loop-c.last list c.loop-c.c-index (c.args.key.now.items ++ character_level list) c.loop-c.key.items past c.loop-c.invariant.level
