use Rattle.std.proofs.Common.{◌∙◌, string_bytes, codes, refl, arith}
use Rattle.std.proofs.lemmas.Slice.{pushed}
use lib.Utf8.{encode}
use Rattle.icu_collections_sets.proofs.texts.SpellingLemmas.{digits_written}
use Rattle.icu_collections_sets.proofs.json.spelling.push_surrogate.Goals as goal

pub returns : goal.returns
returns c =
    let start = pushed (codes "U+") refl c.in_ok-push_str.was c.push_str.ensures.bytes in
    let first = pushed (encode c.upper_hex.result) start c.in_ok-push.was c.push.ensures.bytes in
    let second = pushed (encode c.upper_hex-2.result) first c.in_ok-push-2.was c.push-2.ensures.bytes in
    let third = pushed (encode c.upper_hex-3.result) second c.in_ok-push-3.was c.push-3.ensures.bytes in
    let fourth = pushed (encode c.upper_hex-4.result) third c.in_ok-push-4.was c.push-4.ensures.bytes in
    fourth ∙ digits_written (string_bytes c.args.text.now) c.args.surrogate c.upper_hex.result c.upper_hex-2.result c.upper_hex-3.result c.upper_hex-4.result (omega (arith, c.requires)) c.upper_hex.ensures c.upper_hex-2.ensures c.upper_hex-3.ensures c.upper_hex-4.ensures
