use Rattle.std.proofs.Common.{◌≡◌, ◌∙◌, ◌+◌, ◌*◌, ◌<◌, ◌≤◌, ◌++◌, length, drop, ap, sym, arith}
use Rattle.icu_collator_core.specs.ElementLists.{unpacked}
use Rattle.icu_collator_core.specs.NumberBytes.{long_bytes}
use Rattle.icu_collator_core.specs.Numbers.{elements_of_bytes}
use Rattle.icu_collator_core.proofs.numbers.PairIndexLemmas.{bytes_appended, bytes_ended, long_is, long_length}
use Rattle.icu_collator_core.proofs.reading.numbers.push_long.Goals as goal

pub loop-index-preserved : goal.loop-index-preserved
loop-index-preserved c =
    let lead = c.args.lead in
    let bytes = long_bytes c.args.digits.now in
    let kept = c.kept_pairs-kept.result in
    let index = c.loop-index.index in
    let next : 3 * (index + 1) ≡ 3 * index + 3 = omega arith in
    let count = long_length c.args.digits.now kept (record { pairs = c.kept_pairs-kept.ensures.kept; within = c.kept_pairs-kept.ensures.within }) in
    let more = c.loop-index-test.true in
    let inside : 3 * index < length bytes = omega (arith, count, more) in
    ap (λ n. unpacked c.push_bytes.new.elements.items ++ elements_of_bytes lead (drop n bytes)) next
    ∙ bytes_appended lead (unpacked c.args.elements.now.items ++ elements_of_bytes lead bytes) (unpacked c.loop-index.elements.items)
    (unpacked c.push_bytes.new.elements.items) bytes (3 * index) c.byte_at-second.result c.byte_at-third.result c.byte_at-fourth.result inside
    c.byte_at-second.ensures c.byte_at-third.ensures c.byte_at-fourth.ensures c.loop-index.invariant c.in_ok-push_bytes.ensures

pub returns : goal.returns
returns c =
    let lead = c.args.lead in
    let bytes = long_bytes c.args.digits.now in
    let kept = c.kept_pairs-kept.result in
    let count = long_length c.args.digits.now kept (record { pairs = c.kept_pairs-kept.ensures.kept; within = c.kept_pairs-kept.ensures.within }) in
    let end = c.loop-index-test.false in
    let past : length bytes ≤ 3 * c.loop-index.index = omega (arith, count, end) in
    bytes_ended lead (unpacked c.args.elements.now.items ++ elements_of_bytes lead bytes) (unpacked c.loop-index.elements.items) bytes (3 * c.loop-index.index)
    past c.loop-index.invariant
    ∙ ap (λ es. unpacked c.args.elements.now.items ++ es) (sym (long_is lead c.args.digits.now))
