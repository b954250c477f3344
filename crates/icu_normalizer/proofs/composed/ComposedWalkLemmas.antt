-- Reading a text beside the composed list of its first cluster, up to the first index at which they differ.
use Rattle.std.proofs.Common.{◌≡◌, ℕ, ◌+◌, ◌<◌, ◌≤◌, ◌⊎◌, inl, inr, ⊎_elim, List, [], ◌∷◌, ◌++◌, length, length-append, get_or, refl, sym, ap, ap₂, subst, ◌∙◌, arith, append_assoc, append-nil}
use Rattle.std.proofs.lemmas.Bool.{cases_lt, cases_eq}
use Rattle.std.proofs.lemmas.List.{append_cancel_left, append_cancel_right, get_or_append_left, get_or_at, get_or_past, get_or_push}
use Rattle.icu_normalizer_core.specs.Canonical.{Canonical, composed}
use Rattle.icu_normalizer_core.specs.Forming.{IsForming}
use Rattle.icu_normalizer.specs.Composing.{IsCluster, IsComposedApart}
use Rattle.icu_normalizer.specs.FormCuts.{IsComposed}
use Rattle.icu_normalizer.specs.TextCuts.{IsPassed, IsTextCut}
use Rattle.icu_normalizer.specs.Texts.{Text, AreCharacters, BeginsDamaged, BeginsWith, IsAtEnd, IsEncoding}
use Rattle.icu_normalizer.proofs.cuts.ComposedCutLemmas.{same_front}
use Rattle.icu_normalizer.proofs.cuts.TextCutLemmas.{IsReadTo, all_characters, all_units, characters_front, cut_before, cut_here, damaged_behind, damaged_changes, read_behind, read_first}
use Rattle.icu_normalizer.proofs.cuts.WeightLemmas.{composed_behind, total_composed, weighs, weight}

-- two lists part at once
abbrev pub PartAtOnce : List ℕ → List ℕ → Type 0
PartAtOnce [] [] = ⊥
PartAtOnce [] (y ∷ ys) = Unit {0}
PartAtOnce (x ∷ xs) [] = Unit {0}
PartAtOnce (x ∷ xs) (y ∷ ys) = x ≡ y → ⊥

pub never_same : (xs ys : List ℕ) → PartAtOnce xs ys → xs ≡ ys → ⊥
never_same [] [] h e = h
never_same [] (y ∷ ys) h e = cc
never_same (x ∷ xs) [] h e = cc
never_same (x ∷ xs) (y ∷ ys) h e = h (cc)

agreed_at_once : (xs ys : List ℕ) (a : ℕ) (others more : List ℕ) → PartAtOnce xs ys → xs ≡ a ∷ others → ys ≡ a ∷ more → ⊥
agreed_at_once [] ys a others more h e f = cc
agreed_at_once (x ∷ xs) [] a others more h e f = cc
agreed_at_once (x ∷ xs) (y ∷ ys) a others more h e f = h (cc)

-- what two lists agree in ends where they part
pub agreed_within : (seen xs ys agreed others more : List ℕ) → PartAtOnce xs ys → seen ++ xs ≡ agreed ++ others → seen ++ ys ≡ agreed ++ more → length agreed ≤ length seen
agreed_within seen xs ys [] others more h e f = omega arith
agreed_within [] xs ys (a ∷ agreed) others more h e f = absurd (agreed_at_once xs ys a (agreed ++ others) (agreed ++ more) h e f)
agreed_within (s ∷ seen) xs ys (a ∷ agreed) others more h e f =
    let behind = agreed_within seen xs ys agreed others more h (cc) (cc) in omega (arith, behind)

-- Characters in two parts: the second begins with the last one below U+0300, or is all of them.
pub record IsLowSplit (front back : List ℕ) : Type 0 where
  pub begins : (front ≡ []) ⊎ ((c : ℕ) × (others : List ℕ) × (back ≡ c ∷ others) × (c < 0x300))
  pub last : (i : ℕ) → get_or (front ++ back) i 0x300 < 0x300 → i ≤ length front

low_none : IsLowSplit [] []
low_none = record { begins = inl refl; last = λ i h. absurd (omega (arith, h)) }

low_low : (front back : List ℕ) (c : ℕ) → c < 0x300 → IsLowSplit (front ++ back) (c ∷ [])
low_low front back c low = record {
  begins = inr (c, [], refl, low);
  last = λ i h.
      ⊎_elim (λ below. omega (arith, below))
      (λ past. let out = get_or_past ((front ++ back) ++ c ∷ []) i 0x300 (omega (arith, past, length-append (front ++ back) (c ∷ []))) in absurd (omega (arith, out, h)))
      (cases_lt i (length (front ++ back) + 1));
}

begins_more : (front back : List ℕ) (c : ℕ) → (front ≡ []) ⊎ ((d : ℕ) × (others : List ℕ) × (back ≡ d ∷ others) × (d < 0x300)) → (front ≡ []) ⊎ ((d : ℕ) × (others : List ℕ) × (back ++ c ∷ [] ≡ d ∷ others) × (d < 0x300))
begins_more front back c (inl none) = inl none
begins_more front back c (inr some) = inr (some.0, some.1 ++ c ∷ [], ap (λ l. l ++ c ∷ []) some.2, some.3)

low_high : (front back : List ℕ) (c : ℕ) → IsLowSplit front back → 0x300 ≤ c → IsLowSplit front (back ++ c ∷ [])
low_high front back c is high = record {
  begins = begins_more front back c is.begins;
  last = λ i h.
      let whole : get_or (front ++ (back ++ c ∷ [])) i 0x300 ≡ get_or ((front ++ back) ++ c ∷ []) i 0x300 = ap (λ l. get_or l i 0x300) (sym (append_assoc front back (c ∷ []))) in
      ⊎_elim
      (λ before. let same = get_or_append_left (front ++ back) (c ∷ []) 0x300 i before in is.last i (omega (arith, h, whole, same)))
      (λ past.
      ⊎_elim
      (λ here. let out = get_or_push (front ++ back) c 0x300 i (sym here) in absurd (omega (arith, out, h, whole, high)))
      (λ apart. let out = get_or_past ((front ++ back) ++ c ∷ []) i 0x300 (omega (arith, past, apart, length-append (front ++ back) (c ∷ []))) in absurd (omega (arith, out, h, whole)))
      (cases_eq i (length (front ++ back))))
      (cases_lt i (length (front ++ back)));
}

-- a character below U+0300 is in no second part but at its beginning
low_at : (front back : List ℕ) → IsLowSplit front back → (agreed left : List ℕ) (c : ℕ) → front ++ back ≡ agreed ++ c ∷ left → c < 0x300 → length agreed ≤ length front
low_at front back is agreed left c e low =
    let here : get_or (front ++ back) (length agreed) 0x300 ≡ c = ap (λ l. get_or l (length agreed) 0x300) e ∙ get_or_at agreed c left 0x300 (length agreed) refl in
    is.last (length agreed) (omega (arith, here, low))

-- ---- what was read ends in c

-- what was read before it is `seen`
pub record IsLooked (encode : List ℕ → List ℕ) (text rest next : Text) (c : ℕ) (seen : List ℕ) : Type 0 where
  pub front : List ℕ
  pub mid : List ℕ
  pub read : IsReadTo encode text rest next front (mid ++ c ∷ [])
  pub low : IsLowSplit front (mid ++ c ∷ [])
  pub some : 0 < length rest.units
  pub same : seen ≡ front ++ mid

pub looked_more : (seen left more : List ℕ) (c : ℕ) (front mid all : List ℕ) → seen ≡ front ++ mid → all ≡ seen ++ left → left ≡ c ∷ more → all ≡ (front ++ (mid ++ c ∷ [])) ++ more
looked_more seen left more c front mid all same form e =
    form ∙ ap (λ l. seen ++ l) e ∙ sym (append_assoc seen (c ∷ []) more) ∙ ap (λ l. (l ++ c ∷ []) ++ more) same ∙ ap (λ l. l ++ more) (append_assoc front mid (c ∷ []))

module _ (canonical : Canonical) (ok : IsForming canonical) where
  -- characters and their composed list weigh the same, so neither is a proper front of the other
  own_from_front : (cluster ys zs : List ℕ) → AreCharacters cluster → composed canonical cluster ++ ys ≡ cluster ++ zs → IsComposed canonical cluster
  own_from_front cluster ys zs known e =
      let same : zs ≡ ys = same_front (weight canonical ok) (weighs canonical ok) (composed canonical cluster) ys cluster zs e (sym (total_composed canonical ok cluster known)) in
      append_cancel_right (composed canonical cluster) cluster ys (e ∙ ap (λ l. cluster ++ l) same)

  never_longer : (text : List ℕ) (y : ℕ) (ys : List ℕ) → AreCharacters text → composed canonical text ≡ text ++ y ∷ ys → ⊥
  never_longer text y ys known e =
      let none : [] ≡ y ∷ ys = same_front (weight canonical ok) (weighs canonical ok) text (y ∷ ys) (composed canonical text) [] (sym e ∙ sym (append-nil (composed canonical text))) (total_composed canonical ok text known) in
      omega (arith, ap length none)

  -- after a front that is its own composed list, the text is composed anew
  alone_from : (text rest front back behind tail : List ℕ) → AreCharacters text → text ≡ front ++ rest → rest ≡ back ++ behind → composed canonical text ≡ front ++ tail
      → (front ≡ []) ⊎ ((c : ℕ) × (others : List ℕ) × (back ≡ c ∷ others) × (c < 0x300)) → composed canonical text ≡ front ++ composed canonical rest
  alone_from text rest front back behind tail known whole part form (inl none) =
      ap (composed canonical) (whole ∙ ap (λ l. l ++ rest) none) ∙ ap (λ l. l ++ composed canonical rest) (sym none)
  alone_from text rest front back behind tail known whole part form (inr some) =
      let rest_is : rest ≡ some.0 ∷ (some.1 ++ behind) = part ∙ ap (λ l. l ++ behind) some.2 in
      let tail_is = composed_behind canonical ok front some.0 (some.1 ++ behind) tail (characters_front front rest (subst AreCharacters whole known)) some.3
      (ap (λ l. composed canonical (front ++ l)) (sym rest_is) ∙ ap (composed canonical) (sym whole) ∙ form) in
      form ∙ ap (λ l. front ++ l) (tail_is ∙ ap (composed canonical) (sym rest_is))

-- ---- beside the composed list of the first cluster, of which `left` is left

pub record IsBeside (encode : List ℕ → List ℕ) (canonical : Canonical) (text rest ahead : Text) (left : List ℕ) : Type 0 where
  pub front : List ℕ
  pub back : List ℕ
  pub cluster : List ℕ
  pub more : List ℕ
  pub read : IsReadTo encode text rest ahead front back
  pub low : IsLowSplit front back
  pub some : 0 < length cluster
  pub parts : text.characters ≡ cluster ++ more
  pub apart : IsComposedApart canonical more
  pub form : composed canonical cluster ≡ (front ++ back) ++ left

module _ (encode : List ℕ → List ℕ) (is : IsEncoding encode) (canonical : Canonical) where
  pub beside_begun : (text : Text) (form more : List ℕ) → IsCluster canonical text.characters form more → IsBeside encode canonical text text text form
  beside_begun text form more c =
      let same : text.units ≡ encode [] ++ text.units = ap (λ l. l ++ text.units) (sym is.nothing) in
      record {
        front = [];
        back = [];
        cluster = c.cluster;
        more = more;
        read = record { units = same; characters = refl; units_ahead = same; characters_ahead = refl };
        low = low_none;
        some = c.some;
        parts = c.whole;
        apart = c.apart;
        form = sym c.composes;
      }

  module _ (text rest ahead : Text) (left : List ℕ) (b : IsBeside encode canonical text rest ahead left) where
    pub beside_looked : (later next : Text) (c : ℕ) → BeginsWith encode ahead c next → 0 < length ahead.units → (c < 0x300 → later ≡ ahead) → (0x300 ≤ c → later ≡ rest)
        → IsLooked encode text later next c (b.front ++ b.back)
    beside_looked later next c begins some low high =
        ⊎_elim
        (λ (h : c < 0x300).
        subst (λ (t : Text). IsLooked encode text t next c (b.front ++ b.back)) (sym (low h))
        (record { front = b.front ++ b.back; mid = []; read = read_first encode is text rest ahead next b.front b.back c b.read begins; low = low_low b.front b.back c h; some = some; same = sym (append-nil (b.front ++ b.back)) }))
        (λ (h : 0x300 ≤ c).
        subst (λ (t : Text). IsLooked encode text t next c (b.front ++ b.back)) (sym (high h))
        (record {
          front = b.front;
          mid = b.back;
          read = read_behind encode is text rest ahead next b.front b.back c b.read begins;
          low = low_high b.front b.back c b.low h;
          some = omega (arith, some, ap length b.read.units_ahead, length-append (encode b.back) ahead.units);
          same = refl;
        }))
        (cases_lt c 0x300)

    -- c is next in the composed list, too
    pub beside_more : (later next : Text) (c : ℕ) (new : List ℕ) → IsLooked encode text later next c (b.front ++ b.back) → left ≡ c ∷ new → IsBeside encode canonical text later next new
    beside_more later next c new l e = record {
      front = l.front;
      back = l.mid ++ c ∷ [];
      cluster = b.cluster;
      more = b.more;
      read = l.read;
      low = l.low;
      some = b.some;
      parts = b.parts;
      apart = b.apart;
      form = looked_more (b.front ++ b.back) left new c l.front l.mid (composed canonical b.cluster) l.same b.form e;
    }

    text_is : text.characters ≡ (b.front ++ b.back) ++ ahead.characters
    text_is = all_characters encode is text rest ahead ahead b.front b.back 0 b.read

    form_is : composed canonical text.characters ≡ (b.front ++ b.back) ++ (left ++ composed canonical b.more)
    form_is = ap (composed canonical) b.parts ∙ b.apart b.cluster ∙ ap (λ l. l ++ composed canonical b.more) b.form ∙ append_assoc (b.front ++ b.back) left (composed canonical b.more)

    module _ (ok : IsForming canonical) (scalars : AreCharacters text.characters) where
      -- nothing is left of the composed list: the cluster is passed over
      pub beside_own : left ≡ [] → IsPassed encode (composed canonical) text ahead × (length ahead.characters < length text.characters)
      beside_own none =
          let seen = b.front ++ b.back in
          let formed : composed canonical b.cluster ≡ seen = b.form ∙ ap (λ l. seen ++ l) none ∙ append-nil seen in
          let own = own_from_front canonical ok b.cluster ahead.characters b.more (characters_front b.cluster b.more (subst AreCharacters b.parts scalars))
          (ap (λ l. l ++ ahead.characters) formed ∙ sym text_is ∙ b.parts) in
          let read : seen ≡ b.cluster = sym formed ∙ own in
          let behind : ahead.characters ≡ b.more = append_cancel_left b.cluster ahead.characters b.more (ap (λ l. l ++ ahead.characters) (sym read) ∙ sym text_is ∙ b.parts) in (
            record {
              prefix = seen;
              behind = record {
                scalars = characters_front seen ahead.characters (subst AreCharacters text_is scalars);
                units = all_units encode is text rest ahead ahead b.front b.back 0 b.read;
                characters = text_is;
              };
              alone = ap (composed canonical) b.parts ∙ b.apart b.cluster ∙ ap₂ (λ x y. x ++ composed canonical y) formed (sym behind);
            },
            omega (arith, b.some, ap length b.parts, length-append b.cluster b.more, ap length behind),
          )

      -- it never goes on where the text ends
      pub beside_ended : (y : ℕ) (ys : List ℕ) → IsAtEnd ahead → left ≡ y ∷ ys → ⊥
      beside_ended y ys end e =
          let all = text_is ∙ ap (λ l. (b.front ++ b.back) ++ l) end.1 ∙ append-nil (b.front ++ b.back) in
          never_longer canonical ok text.characters y (ys ++ composed canonical b.more) scalars
          (form_is ∙ ap₂ (λ x y. x ++ (y ++ composed canonical b.more)) (sym all) e)

      -- what is ahead is damaged
      pub beside_damaged : (next : Text) → 0 < length ahead.units → BeginsDamaged encode ahead next → IsTextCut encode (composed canonical) 0x300 text rest
      beside_damaged next some bad =
          let units = all_units encode is text rest ahead ahead b.front b.back 0 b.read in
          cut_before encode is (composed canonical) 0x300 text rest ahead b.front b.back b.read scalars some
          (alone_from canonical ok text.characters rest.characters b.front b.back ahead.characters (b.back ++ (left ++ composed canonical b.more)) scalars b.read.characters b.read.characters_ahead
          (form_is ∙ append_assoc b.front b.back (left ++ composed canonical b.more)) b.low.begins)
          (λ agreed more left others c e f g low.
          let seen = damaged_behind encode is text ahead next (b.front ++ b.back) units text_is bad agreed more left c e f (omega (arith, low)) in
          low_at b.front b.back b.low agreed seen.0 c seen.1 low)
          (λ own. damaged_changes encode is text ahead next (b.front ++ b.back) units text_is bad own.0)

      -- the text and its composed list differ at c
      pub beside_other : (later next : Text) (c y : ℕ) (ys : List ℕ) → IsLooked encode text later next c (b.front ++ b.back) → left ≡ y ∷ ys → (y ≡ c → ⊥) → IsTextCut encode (composed canonical) 0x300 text later
      beside_other later next c y ys l e other =
          let seen = b.front ++ b.back in
          let tail = left ++ composed canonical b.more in
          let read = l.front ++ (l.mid ++ c ∷ []) in
          let read_is : read ≡ seen ++ c ∷ [] = sym (append_assoc l.front l.mid (c ∷ [])) ∙ ap (λ s. s ++ c ∷ []) (sym l.same) in
          let whole = all_characters encode is text later next next l.front (l.mid ++ c ∷ []) 0 l.read in
          let looked : text.characters ≡ seen ++ c ∷ next.characters = whole ∙ ap (λ s. s ++ next.characters) read_is ∙ append_assoc seen (c ∷ []) next.characters in
          let part : PartAtOnce (c ∷ next.characters) tail = subst (λ s. PartAtOnce (c ∷ next.characters) (s ++ composed canonical b.more)) (sym e) (λ (same : c ≡ y). other (sym same)) in
          cut_here encode is (composed canonical) 0x300 text later l.front l.read.units l.read.characters scalars l.some
          (alone_from canonical ok text.characters later.characters l.front (l.mid ++ c ∷ []) next.characters (l.mid ++ tail) scalars l.read.characters l.read.characters_ahead
          (form_is ∙ ap (λ s. s ++ tail) l.same ∙ append_assoc l.front l.mid tail) l.low.begins)
          (λ agreed more left others d e f g low.
          let within = agreed_within seen (c ∷ next.characters) tail agreed (d ∷ left) others part (sym looked ∙ f) (sym form_is ∙ g) in
          let inside : length agreed < length read = omega (arith, within, ap length read_is, length-append seen (c ∷ [])) in
          let here : get_or read (length agreed) 0x300 ≡ d =
          sym (get_or_append_left read next.characters 0x300 (length agreed) inside) ∙ ap (λ s. get_or s (length agreed) 0x300) (sym whole ∙ f) ∙ get_or_at agreed d left 0x300 (length agreed) refl in
          l.low.last (length agreed) (omega (arith, here, low)))
          (λ own. never_same (c ∷ next.characters) tail part (append_cancel_left seen (c ∷ next.characters) tail (sym looked ∙ sym own.1 ∙ form_is)))
