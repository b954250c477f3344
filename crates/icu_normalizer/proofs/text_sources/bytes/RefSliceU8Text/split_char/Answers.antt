use Rattle.std.proofs.Common.{◌≡◌, ◌<◌, length, sym, ap, ◌∙◌, arith}
use Rattle.bstr.specs.Utf8.{decoded, lossy_chars}
use Rattle.bstr.proofs.lemmas.PieceLemmas.{size-zero, size-some, size-within, lossy_chars-nil}
use Rattle.icu_normalizer.proofs.passed.FormTextLemmas.{utf8_first}
use Rattle.icu_normalizer.proofs.text_sources.bytes.RefSliceU8Text.split_char.Goals as goal

pub returns-then-size-eq0-clause-none : goal.returns-then-size-eq0-clause-none
returns-then-size-eq0-clause-none c =
    let none = size-zero c.args.self.now (sym c.decode-first.ensures.size ∙ c.if-size-eq0.true) in
    (none, ap lossy_chars none ∙ lossy_chars-nil)

pub slice_bounds-result-count : goal.slice_bounds-result-count
slice_bounds-result-count c =
    let size : c.decode-first.result.1 ≡ (decoded c.args.self.now).size = c.decode-first.ensures.size in
    let within = size-within c.args.self.now in
    omega arith

pub slice_bounds-result-start : goal.slice_bounds-result-start
slice_bounds-result-start c =
    let size : c.decode-first.result.1 ≡ (decoded c.args.self.now).size = c.decode-first.ensures.size in
    let within = size-within c.args.self.now in
    let none = c.if-size-eq0.false in
    let some : 0 < length c.args.self.now = size-some c.args.self.now (λ z. none (size ∙ z)) in
    omega arith

pub returns-clause-some : goal.returns-clause-some
returns-clause-some c =
    utf8_first c.args.self.now c.decode-first.result.0 c.decode-first.result.1 c.decode-first.ensures.char c.decode-first.ensures.size c.if-size-eq0.false
