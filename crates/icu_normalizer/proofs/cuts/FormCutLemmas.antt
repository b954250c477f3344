-- Texts in UTF-8 that are their own form.
use Rattle.std.proofs.Common.{◌≡◌, ℕ, List, chars, encode_utf8_all, IsUtf8, sym, ap, ◌∙◌}
use Rattle.std.proofs.lemmas.Str.{encodes-chars}
use Rattle.icu_normalizer.specs.FormCuts.{IsOwnForm}

pub form_bytes : (form : List ℕ → List ℕ) (text : List ℕ) → IsUtf8 text → IsOwnForm form (chars text) → text ≡ encode_utf8_all (form (chars text))
form_bytes form text u h = sym (encodes-chars text u) ∙ ap encode_utf8_all (sym h)
