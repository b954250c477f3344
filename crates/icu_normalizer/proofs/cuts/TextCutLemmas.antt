-- Texts that were read to an index.
use Rattle.std.proofs.Common.{◌≡◌, ℕ, zero, suc, ◌+◌, ◌-◌, ◌<◌, ◌≤◌, ◌↔◌, ◌⊎◌, inl, inr, Option, None, Some, List, [], ◌∷◌, ◌++◌, length, length-append, take, drop, get_or, refl, sym, ap, ap₂, subst, ◌∙◌, arith, append_assoc, append-nil, ⊎_elim}
use Rattle.std.proofs.lemmas.Bool.{cases_lt}
use Rattle.std.proofs.lemmas.List.{append_cancel_left, take_more}
use Rattle.std.proofs.Common.{drop-cons, take-append-drop}
use Rattle.std.specs.Char.{IsScalar}
use Rattle.std.specs.Option.{MatchOption, unwrap_or}
use Rattle.icu_normalizer.specs.FormCuts.{IsOwnForm}
use Rattle.icu_normalizer.specs.TextCuts.{IsOwnText, IsTextCut, IsTextSplit, ReachesTo}
use Rattle.icu_normalizer.specs.Texts.{Text, AreCharacters, BeginsDamaged, BeginsWith, IsAtEnd, IsEncoding, IsUndamaged}
use Rattle.icu_normalizer.proofs.cuts.CutLemmas.{ArePlain, are_plain}
use Rattle.icu_normalizer.proofs.writing.ListLemmas.{split_front}

pub characters_front : (xs ys : List ℕ) → AreCharacters (xs ++ ys) → AreCharacters xs
characters_front [] ys h = tt
characters_front (x ∷ xs) ys h = (h.0, characters_front xs ys h.1)

pub characters_append : (xs ys : List ℕ) → AreCharacters xs → AreCharacters ys → AreCharacters (xs ++ ys)
characters_append [] ys h k = k
characters_append (x ∷ xs) ys h k = (h.0, characters_append xs ys h.1 k)

-- ---- what `split_char` gives

module _ (encode : List ℕ → List ℕ) (text rest : Text) (first : Option ℕ) (begins : MatchOption first (BeginsDamaged encode text rest) (λ c. BeginsWith encode text c rest)) where
  pub first_damaged : first ≡ None → BeginsDamaged encode text rest
  first_damaged is = subst (λ o. MatchOption o (BeginsDamaged encode text rest) (λ c. BeginsWith encode text c rest)) is begins

  pub first_char : (c : ℕ) → first ≡ Some c → BeginsWith encode text c rest
  first_char c is = subst (λ o. MatchOption o (BeginsDamaged encode text rest) (λ d. BeginsWith encode text d rest)) is begins

-- what is damaged reads as U+FFFD
pub first_read : (encode : List ℕ → List ℕ) (text rest : Text) (first : Option ℕ) (c : ℕ) → MatchOption first (BeginsDamaged encode text rest) (λ d. BeginsWith encode text d rest)
    → c ≡ unwrap_or first 0xFFFD → text.characters ≡ c ∷ rest.characters
first_read encode text rest None c begins is = begins.characters ∙ ap (λ x. x ∷ rest.characters) (sym is)
first_read encode text rest (Some d) c begins is = begins.characters ∙ ap (λ x. x ∷ rest.characters) (sym is)

-- ---- what was read, and what is ahead

module _ (encode : List ℕ → List ℕ) where
  -- the rest comes after `front`, and what is ahead comes after `back`, which is the start of the rest
  pub record IsReadTo (text rest ahead : Text) (front back : List ℕ) : Type 0 where
    pub units : text.units ≡ encode front ++ rest.units
    pub characters : text.characters ≡ front ++ rest.characters
    pub units_ahead : rest.units ≡ encode back ++ ahead.units
    pub characters_ahead : rest.characters ≡ back ++ ahead.characters

  -- what was passed over: nothing, or characters of which the last begins the rest
  abbrev pub IsPastPlain : Text → Text → Text → Type 0
  IsPastPlain text rest ahead =
      IsReadTo text rest ahead [] [] ⊎ ((front : List ℕ) × (c : ℕ) × ArePlain front × (c < 0x80) × IsReadTo text rest ahead front (c ∷ []))

module _ (encode : List ℕ → List ℕ) (is : IsEncoding encode) where
  pub plain_units : (cs : List ℕ) → ArePlain cs → encode cs ≡ cs
  plain_units [] plain = is.nothing
  plain_units (c ∷ cs) plain = is.append (c ∷ []) cs ∙ ap₂ (λ x y. x ++ y) (is.plain c plain.0) (plain_units cs plain.1)

  module _ (text rest ahead next : Text) (front back : List ℕ) (c : ℕ) (r : IsReadTo encode text rest ahead front back) where
    pub all_units : text.units ≡ encode (front ++ back) ++ ahead.units
    all_units =
        r.units ∙ ap (λ l. encode front ++ l) r.units_ahead ∙ sym (append_assoc (encode front) (encode back) ahead.units)
        ∙ ap (λ l. l ++ ahead.units) (sym (is.append front back))

    pub all_characters : text.characters ≡ (front ++ back) ++ ahead.characters
    all_characters = r.characters ∙ ap (λ l. front ++ l) r.characters_ahead ∙ sym (append_assoc front back ahead.characters)

    -- the rest begins with the character that comes next
    pub read_first : BeginsWith encode ahead c next → IsReadTo encode text ahead next (front ++ back) (c ∷ [])
    read_first b = record { units = all_units; characters = all_characters; units_ahead = b.units; characters_ahead = b.characters }

    -- the rest stays where it began
    pub read_behind : BeginsWith encode ahead c next → IsReadTo encode text rest next front (back ++ c ∷ [])
    read_behind b = record {
      units = r.units;
      characters = r.characters;
      units_ahead =
          r.units_ahead ∙ ap (λ l. encode back ++ l) b.units ∙ sym (append_assoc (encode back) (encode (c ∷ [])) next.units)
          ∙ ap (λ l. l ++ next.units) (sym (is.append back (c ∷ [])));
      characters_ahead = r.characters_ahead ∙ ap (λ l. back ++ l) b.characters ∙ sym (append_assoc back (c ∷ []) next.characters);
    }

    pub read_to_end : IsAtEnd ahead → (text.units ≡ encode (front ++ back)) × (text.characters ≡ front ++ back)
    read_to_end end =
        (all_units ∙ ap (λ l. encode (front ++ back) ++ l) end.0 ∙ append-nil _, all_characters ∙ ap (λ l. (front ++ back) ++ l) end.1 ∙ append-nil _)

  -- ---- ASCII at the start

  pub past_plain : (text rest ahead : Text) (n : ℕ) → n ≤ length text.units → ((k : ℕ) → k < n → get_or text.units k 0 < 0x80)
      → rest.units ≡ drop (n - 1) text.units → text.characters ≡ take (n - 1) text.units ++ rest.characters
      → ahead.units ≡ drop n text.units → text.characters ≡ take n text.units ++ ahead.characters → IsPastPlain encode text rest ahead
  past_plain text rest ahead zero within plain e f g h =
      let none : zero - 1 ≡ zero = omega arith in
      let start : rest.units ≡ text.units = e ∙ ap (λ k. drop k text.units) none in
      let same : text.characters ≡ rest.characters = f ∙ ap (λ k. take k text.units ++ rest.characters) none in
      inl (record {
        units = sym start ∙ ap (λ l. l ++ rest.units) (sym is.nothing);
        characters = same;
        units_ahead = start ∙ sym g ∙ ap (λ l. l ++ ahead.units) (sym is.nothing);
        characters_ahead = sym same ∙ h;
      })
  past_plain text rest ahead (suc m) within plain e f g h =
      let one : suc m - 1 ≡ m = omega arith in
      let more : m + 1 ≡ suc m = omega arith in
      let front = take m text.units in
      let c = get_or text.units m 0 in
      let low : c < 0x80 = plain m (omega arith) in
      let all : ArePlain front = are_plain text.units m (λ k lt. plain k (omega arith)) in
      let start : rest.units ≡ drop m text.units = e ∙ ap (λ k. drop k text.units) one in
      let read : text.characters ≡ front ++ rest.characters = f ∙ ap (λ k. take k text.units ++ rest.characters) one in
      let seen : take (suc m) text.units ≡ front ++ c ∷ [] = ap (λ k. take k text.units) (sym more) ∙ take_more text.units m 0 (omega arith) in
      inr (
        front,
        c,
        all,
        low,
        record {
          units = sym (take-append-drop m text.units) ∙ ap₂ (λ x y. x ++ y) (sym (plain_units front all)) (sym start);
          characters = read;
          units_ahead = start ∙ drop-cons text.units m 0 (omega arith) ∙ ap₂ (λ x y. x ++ y) (sym (is.plain c low)) (sym g);
          characters_ahead =
              append_cancel_left front rest.characters (c ∷ ahead.characters)
              (sym read ∙ h ∙ ap (λ l. l ++ ahead.characters) seen ∙ append_assoc front (c ∷ []) ahead.characters);
        },
      )

  -- ---- what is ahead is damaged

  module _ (text ahead next : Text) (seen : List ℕ) (units : text.units ≡ encode seen ++ ahead.units) (characters : text.characters ≡ seen ++ ahead.characters) (bad : BeginsDamaged encode ahead next) where
    pub damaged_changes : IsUndamaged encode text → ⊥
    damaged_changes own =
        let both : encode seen ++ encode (0xFFFD ∷ next.characters) ≡ encode seen ++ ahead.units =
        sym (is.append seen (0xFFFD ∷ next.characters)) ∙ ap (λ l. encode (seen ++ l)) (sym bad.characters) ∙ ap encode (sym characters) ∙ own ∙ units in
        let left = append_cancel_left (encode seen) (encode (0xFFFD ∷ next.characters)) ahead.units both in
        bad.never 0xFFFD (encode next.characters) refl (sym left ∙ is.append (0xFFFD ∷ []) next.characters)

    seen_past : (agreed w left : List ℕ) (c : ℕ) → seen ≡ agreed ++ w → 0 < length w → c ∷ left ≡ w ++ ahead.characters → (v : List ℕ) × (seen ≡ agreed ++ c ∷ v)
    seen_past agreed [] left c e some f = absurd (omega (arith, some))
    seen_past agreed (x ∷ v) left c e some f = let head : c ≡ x = cc in (v, e ∙ ap (λ y. agreed ++ y ∷ v) (sym head))

    never_past : (w more left : List ℕ) (c : ℕ) → c < 0xFFFD → text.units ≡ encode (seen ++ w) ++ more → ahead.characters ≡ w ++ c ∷ left → ⊥
    never_past [] more left c low e f =
        let both : 0xFFFD ∷ next.characters ≡ c ∷ left = sym bad.characters ∙ f in
        let head : 0xFFFD ≡ c = cc in
        omega arith
    never_past (x ∷ v) more left c low e f =
        let both : 0xFFFD ∷ next.characters ≡ x ∷ (v ++ c ∷ left) = sym bad.characters ∙ f in
        let head : 0xFFFD ≡ x = cc in
        let rest = ap (λ l. l ++ more) (is.append (x ∷ []) v) ∙ append_assoc (encode (x ∷ [])) (encode v) more in
        let spelled = ap (λ l. l ++ more) (is.append seen (x ∷ v)) ∙ append_assoc (encode seen) (encode (x ∷ v)) more in
        bad.never x (encode v ++ more) (subst IsScalar head refl) (append_cancel_left (encode seen) _ _ (sym units ∙ e ∙ spelled) ∙ rest)

    -- a character other than U+FFFD after undamaged text was seen
    pub damaged_behind : (agreed more left : List ℕ) (c : ℕ) → text.units ≡ encode agreed ++ more → text.characters ≡ agreed ++ c ∷ left → c < 0xFFFD → (w : List ℕ) × (seen ≡ agreed ++ c ∷ w)
    damaged_behind agreed more left c e f low = ⊎_elim
        (λ (past : length agreed < length seen).
        let parts = split_front agreed (c ∷ left) seen ahead.characters (sym f ∙ characters) (omega arith) in
        let whole = sym f ∙ characters ∙ ap (λ l. l ++ ahead.characters) parts.1 ∙ append_assoc agreed parts.0 ahead.characters in
        seen_past agreed parts.0 left c parts.1 (omega (arith, past, ap length parts.1, length-append agreed parts.0)) (append_cancel_left agreed _ _ whole))
        (λ (within : length seen ≤ length agreed).
        let parts = split_front seen ahead.characters agreed (c ∷ left) (sym characters ∙ f) within in
        let whole = sym characters ∙ f ∙ ap (λ l. l ++ c ∷ left) parts.1 ∙ append_assoc seen parts.0 (c ∷ left) in
        absurd (never_past parts.0 more left c low (e ∙ ap (λ l. encode l ++ more) parts.1) (append_cancel_left seen _ _ whole)))
        (cases_lt (length agreed) (length seen))

  -- ---- where a text is cut

  pub cut_here : (form : List ℕ → List ℕ) (bound : ℕ) (text rest : Text) (front : List ℕ) → text.units ≡ encode front ++ rest.units → text.characters ≡ front ++ rest.characters → AreCharacters text.characters
      → 0 < length rest.units → form text.characters ≡ front ++ form rest.characters → ReachesTo encode form bound text front → (IsOwnText encode form text → ⊥) → IsTextCut encode form bound text rest
  cut_here form bound text rest front units characters scalars some alone far changes = record {
    prefix = front;
    behind = record { scalars = characters_front front rest.characters (subst AreCharacters characters scalars); units = units; characters = characters };
    alone = alone;
    far = far;
    empty = (λ none. absurd (omega (arith, some, ap length none)), λ own. absurd (changes own));
  }

  module _ (form : List ℕ → List ℕ) (bound : ℕ) (text rest ahead : Text) (front back : List ℕ) (r : IsReadTo encode text rest ahead front back) (scalars : AreCharacters text.characters) where
    -- it was read to its end, and is its own form
    pub cut_at_end : IsAtEnd ahead → form [] ≡ [] → IsOwnForm form (front ++ back) → IsTextCut encode form bound text ahead
    cut_at_end end nothing own =
        let all = read_to_end text rest ahead ahead front back 0 r end in
        let same : IsOwnForm form text.characters = ap form all.1 ∙ own ∙ sym all.1 in
        record {
          prefix = front ++ back;
          behind = record {
            scalars = subst AreCharacters all.1 scalars;
            units = all_units text rest ahead ahead front back 0 r;
            characters = all_characters text rest ahead ahead front back 0 r;
          };
          alone =
              same ∙ all_characters text rest ahead ahead front back 0 r
              ∙ ap (λ l. (front ++ back) ++ l) (end.1 ∙ sym nothing ∙ ap form (sym end.1));
          far = λ agreed more left others c e f g low.
              omega (arith, ap length (sym all.1 ∙ f), length-append agreed (c ∷ left));
          empty = (λ _. (ap encode all.1 ∙ sym all.0, same), λ _. end.0);
        }

    pub cut_before : 0 < length ahead.units → form text.characters ≡ front ++ form rest.characters → ReachesTo encode form bound text front → (IsOwnText encode form text → ⊥) → IsTextCut encode form bound text rest
    cut_before some =
        cut_here form bound text rest front r.units r.characters scalars (omega (arith, some, ap length r.units_ahead, length-append (encode back) ahead.units))

  pub split_text : (form : List ℕ → List ℕ) (bound : ℕ) (text rest front back : Text) (cut : IsTextCut encode form bound text rest)
      → front.units ≡ encode cut.prefix → front.characters ≡ cut.prefix → back.units ≡ rest.units → back.characters ≡ rest.characters
      → IsTextSplit encode form bound text front back
  split_text form bound text rest front back cut fu fc bu bc = record {
    whole = ap₂ (λ x y. x ++ y) fu bu ∙ sym cut.behind.units;
    undamaged = ap encode fc ∙ sym fu;
    normal = ap₂ (λ x y. x ++ form y) fc bc ∙ sym cut.alone;
    units =
        ap₂ (λ x y. x ++ encode (form y)) fu bc ∙ sym (is.append cut.prefix (form rest.characters)) ∙ ap encode (sym cut.alone);
    far = subst (ReachesTo encode form bound text) (sym fc) cut.far;
    empty = subst (λ (u : List ℕ). (u ≡ []) ↔ IsOwnText encode form text) (sym bu) cut.empty;
  }

-- the front of an undamaged text that is its own form, where nothing is after it
pub own_units : (encode form : List ℕ → List ℕ) (text : Text) (front rest : List ℕ) → IsOwnText encode form text → front ++ rest ≡ text.units → rest ≡ [] → front ≡ encode (form text.characters)
own_units encode form text front rest own whole none =
    sym (append-nil front) ∙ ap (λ l. front ++ l) (sym none) ∙ whole ∙ sym own.0 ∙ ap encode (sym own.1)
