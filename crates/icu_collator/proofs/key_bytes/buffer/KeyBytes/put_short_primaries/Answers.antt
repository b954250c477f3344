use Rattle.std.proofs.Common.{◌≡◌, ◌≢◌, ℕ, ◌<◌, ◌≤◌, ◌/◌, ◌^◌, ◌∙◌, ◌∷◌, [], ◌++◌, length, take, arith, ap, bit_and, sym, true}
use Rattle.std.proofs.lemmas.List.{append-nil, length-set}
use Rattle.std.specs.Prelude.{cond}
use Rattle.icu_collator_core.specs.WeightRules.{primary_rest}
use Rattle.icu_collator.specs.PlainPrimaries.{GivesPlain, own_bytes}
use Rattle.icu_collator.proofs.key_writing.PlainPrimaryLemmas.{all_more, bytes_more, no_bytes, two_bytes, two_put_in}
use Rattle.icu_collator.proofs.key_bytes.buffer.KeyBytes.put_short_primaries.Goals as goal
use Rattle.icu_collator.proofs.key_bytes.buffer.KeyBytes.put_short_primaries.Goals.{then-primary-ne0+else-primary-variable_end+else-not-is_short, else-primary-ne0}

pub elements-preserved : goal.elements-preserved
elements-preserved c =
    let xs = c.args.elements.now in
    let left_out = c.args.left_out in
    let few : left_out ≤ 1 = c.requires.few in
    let from = c.args.from in
    let index = c.elements.index in
    let so_far = c.elements.invariant in
    let before = c.elements.self-inside in
    let length_before = c.elements.length in
    let x = c.index-elements-index.result in
    let primary = c.primary-primary.result in
    let primary_is : primary ≡ x / 2 ^ 32 = c.primary-primary.ensures in
    let inside : index < length xs = c.elements-test.true in
    let onward : from ≤ index = so_far.onward in
    let room : length_before ≤ 510 = c.if-length.true in
    elim c.if-primary-ne0.branch [
      | then-primary-ne0+else-primary-variable_end+else-not-is_short w ↦
          let short : w.is_short.result ≡ true = w.if-not-is_short.false in
          let some : x / 2 ^ 32 ≢ 0 = λ e. w.if-primary-ne0.true (primary_is ∙ e) in
          let second = bit_and (primary / 2 ^ 16) 0xff in
          let led : c.args.lead ≡ x / 2 ^ 32 / 2 ^ 24 = w.is_short.ensures.lead short ∙ ap (λ (n : ℕ). n / 2 ^ 24) primary_is in
          let rest : primary_rest (x / 2 ^ 32) ≡ second ∷ [] = ap primary_rest (sym primary_is) ∙ w.is_short.ensures.rest short in
          let counts : c.args.variable_end ≤ x / 2 ^ 32 = let over = w.if-primary-variable_end.false in omega (arith, over, primary_is) in
          let byte = w.is_short.ensures.low short in
          rw (w.length-is, w.self-inside-is) record {
            onward = omega (arith, onward);
            within = omega (arith, inside);
            array = length-set _ _ _ ∙ length-set _ _ _ ∙ so_far.array;
            room = omega (arith, room, few);
            full = λ long. absurd (let at = so_far.full long in omega (arith, at, room));
            plain = all_more xs from index x onward inside c.index-elements-index.is (GivesPlain c.args.lead c.args.variable_end) so_far.plain
                (λ _. record { byte = byte; led = led; counts = counts });
            put = bytes_more xs from index x onward inside c.index-elements-index.is (own_bytes left_out) c.args.self.now.items _ _ so_far.put
                (two_put_in before.is_long before.list.items before.array length_before c.args.lead second left_out few so_far.full room so_far.array
                ∙ ap (λ l. cond before.is_long before.list.items (take length_before before.array) ++ l) (sym (two_bytes left_out x c.args.lead second some led rest)));
          }
      | else-primary-ne0 w ↦
          let none : x / 2 ^ 32 ≡ 0 = sym primary_is ∙ w.if-primary-ne0.false in
          rw (w.length-is, w.self-inside-is) record {
            onward = omega (arith, onward);
            within = omega (arith, inside);
            array = so_far.array;
            room = omega (arith, room);
            full = so_far.full;
            plain = all_more xs from index x onward inside c.index-elements-index.is (GivesPlain c.args.lead c.args.variable_end) so_far.plain
                (λ some. absurd (some none));
            put = bytes_more xs from index x onward inside c.index-elements-index.is (own_bytes left_out) c.args.self.now.items _ _ so_far.put
                (sym (append-nil _) ∙ ap (λ l. cond before.is_long before.list.items (take length_before before.array) ++ l) (sym (no_bytes left_out x none)));
          }
    ]
