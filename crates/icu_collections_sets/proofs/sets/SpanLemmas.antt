-- How far the characters of a text go that all have one property, from its front and from its back.
use Rattle.std.proofs.Common.{◌≡◌, ℕ, ◌+◌, List, [], ◌∷◌, ◌++◌, length, get_or, take, drop, sym, ap, ◌∙◌, subst, refl, arith, true, append_assoc, length-append, length-drop}
use Rattle.std.specs.Prelude.{All}
use Rattle.std.specs.Str.{IsUtf8, IsCharBoundary, chars}
use Rattle.std.specs.Char.{IsScalar}
use lib.Utf8.{encode, scalars}
use Rattle.std.proofs.lemmas.Str.{chars-nil, chars-append, chars_past_char, IsUtf8-past_char, IsUtf8-encode, IsUtf8-append, IsUtf8-nil, IsUtf8-take, IsCharBoundary-at_seam, scalars-chars}
use Rattle.std.proofs.lemmas.List.{take_at, drop_at, nil_from_length, same_from_push}
use Rattle.std.proofs.lemmas.List.Elements.{All-nil, All-cons, All-push}

append-nil : (xs : List ℕ) → xs ++ [] ≡ xs
append-nil [] = refl
append-nil (x ∷ xs) = ap (λ ys. x ∷ ys) (append-nil xs)

first_of : (c d : ℕ) (xs ys : List ℕ) → c ∷ xs ≡ d ∷ ys → c ≡ d
first_of c d xs ys e = ap (λ zs. get_or zs 0 0) e

scalar_from_all : (c : ℕ) (cs : List ℕ) → scalars (c ∷ cs) ≡ true → IsScalar c
scalar_from_all c cs h = grind arith

-- a text begins with a scalar value
first_is_scalar : (bs rest : List ℕ) (c : ℕ) → IsUtf8 bs → bs ≡ encode c ++ rest → IsScalar c
first_is_scalar bs rest c u e = scalar_from_all c (chars rest) (subst (λ cs. scalars cs ≡ true) (chars_past_char bs rest c u e) (scalars-chars bs u))

chars_of_one : (c : ℕ) → IsScalar c → chars (encode c) ≡ c ∷ []
chars_of_one c s = chars_past_char (encode c) [] c (IsUtf8-encode c s) (sym (append-nil (encode c))) ∙ ap (λ cs. c ∷ cs) chars-nil

-- the characters up to an index of the text all have the property, and this is left
pub record UpTo (P : ℕ → Type 0) (text rest : List ℕ) (index : ℕ) : Type 0 where
  pub front : List ℕ
  pub joined : text ≡ front ++ rest
  pub index_is : length front ≡ index
  pub front_utf8 : IsUtf8 front
  pub rest_utf8 : IsUtf8 rest
  pub all : All P (chars front)

-- the characters after what is left all have the property
pub record Behind (P : ℕ → Type 0) (text rest : List ℕ) : Type 0 where
  pub back : List ℕ
  pub joined : text ≡ rest ++ back
  pub rest_utf8 : IsUtf8 rest
  pub back_utf8 : IsUtf8 back
  pub all : All P (chars back)

module _ (P : ℕ → Type 0) (text : List ℕ) where
  all_of_none : All P (chars [])
  all_of_none = subst (All P) (sym chars-nil) (All-nil P)

  pub UpTo-start : IsUtf8 text → UpTo P text text 0
  UpTo-start u = record { front = []; joined = refl; index_is = refl; front_utf8 = IsUtf8-nil; rest_utf8 = u; all = all_of_none }

  pub UpTo-more : (rest behind : List ℕ) (index c : ℕ) → UpTo P text rest index → rest ≡ encode c ++ behind → P c → UpTo P text behind (index + length (encode c))
  UpTo-more rest behind index c u e p =
      let s = first_is_scalar rest behind c u.rest_utf8 e in
      record {
        front = u.front ++ encode c;
        joined = u.joined ∙ ap (λ ys. u.front ++ ys) e ∙ sym (append_assoc u.front (encode c) behind);
        index_is = length-append u.front (encode c) ∙ ap (λ n. n + length (encode c)) u.index_is;
        front_utf8 = IsUtf8-append u.front (encode c) u.front_utf8 (IsUtf8-encode c s);
        rest_utf8 = IsUtf8-past_char rest behind c u.rest_utf8 e;
        all = subst (All P) (sym (chars-append u.front (encode c) u.front_utf8 ∙ ap (λ cs. chars u.front ++ cs) (chars_of_one c s))) (All-push P (chars u.front) c u.all p);
      }

  pub UpTo-boundary : (rest : List ℕ) (index : ℕ) → UpTo P text rest index → IsCharBoundary text index
  UpTo-boundary rest index u = subst (IsCharBoundary text) u.index_is (IsCharBoundary-at_seam text u.front rest u.joined u.rest_utf8)

  pub UpTo-all : (rest : List ℕ) (index : ℕ) → UpTo P text rest index → All P (chars (take index text))
  UpTo-all rest index u = subst (λ xs. All P (chars xs)) (sym (ap (take index) u.joined ∙ take_at u.front rest index u.index_is)) u.all

  pub UpTo-rest : (rest : List ℕ) (index : ℕ) → UpTo P text rest index → drop index text ≡ rest
  UpTo-rest rest index u = ap (drop index) u.joined ∙ drop_at u.front rest index u.index_is

  pub UpTo-next : (rest behind : List ℕ) (index c : ℕ) → UpTo P text rest index → rest ≡ encode c ++ behind → ¬ P c
      → (d : ℕ) (others : List ℕ) → chars (drop index text) ≡ d ∷ others → ¬ P d
  UpTo-next rest behind index c u e fails d others f =
      let same = first_of c d (chars behind) others (sym (chars_past_char rest behind c u.rest_utf8 e) ∙ ap chars (sym (UpTo-rest rest index u)) ∙ f) in
      subst (λ x. ¬ P x) same fails

  -- where nothing is left
  pub UpTo-end : (rest : List ℕ) (index : ℕ) → UpTo P text rest index → length rest ≡ 0 → index ≡ length text
  UpTo-end rest index u e = sym (ap length u.joined ∙ length-append u.front rest ∙ omega (arith, u.index_is, e))

  pub none_next : (index : ℕ) → index ≡ length text → (d : ℕ) (others : List ℕ) → chars (drop index text) ≡ d ∷ others → ¬ P d
  none_next index e d others f =
      let none : drop index text ≡ [] = nil_from_length (drop index text) (simp length-drop (omega arith)) in
      λ _. absurd (omega (arith, ap length (sym f ∙ ap chars none ∙ chars-nil)))

  pub Behind-start : IsUtf8 text → Behind P text text
  Behind-start u = record { back = []; joined = sym (append-nil text); rest_utf8 = u; back_utf8 = IsUtf8-nil; all = all_of_none }

  rest_seam : (rest before : List ℕ) (c : ℕ) → IsUtf8 rest → rest ≡ before ++ encode c → IsScalar c → IsUtf8 before
  rest_seam rest before c u e s =
      subst IsUtf8 (ap (take (length before)) e ∙ take_at before (encode c) (length before) refl)
      (IsUtf8-take rest (length before) u (IsCharBoundary-at_seam rest before (encode c) e (IsUtf8-encode c s)))

  pub Behind-more : (rest before : List ℕ) (c : ℕ) → IsScalar c → Behind P text rest → rest ≡ before ++ encode c → P c → Behind P text before
  Behind-more rest before c s b e p = record {
    back = encode c ++ b.back;
    joined = b.joined ∙ ap (λ xs. xs ++ b.back) e ∙ append_assoc before (encode c) b.back;
    rest_utf8 = rest_seam rest before c b.rest_utf8 e s;
    back_utf8 = IsUtf8-append (encode c) b.back (IsUtf8-encode c s) b.back_utf8;
    all = subst (All P) (sym (chars-append (encode c) b.back (IsUtf8-encode c s) ∙ ap (λ cs. cs ++ chars b.back) (chars_of_one c s))) (All-cons P c (chars b.back) p b.all);
  }

  pub Behind-boundary : (rest : List ℕ) → Behind P text rest → IsCharBoundary text (length rest)
  Behind-boundary rest b = IsCharBoundary-at_seam text rest b.back b.joined b.back_utf8

  pub Behind-all : (rest : List ℕ) → Behind P text rest → All P (chars (drop (length rest) text))
  Behind-all rest b = subst (λ xs. All P (chars xs)) (sym (ap (drop (length rest)) b.joined ∙ drop_at rest b.back (length rest) refl)) b.all

  pub Behind-rest : (rest : List ℕ) → Behind P text rest → take (length rest) text ≡ rest
  Behind-rest rest b = ap (take (length rest)) b.joined ∙ take_at rest b.back (length rest) refl

  pub Behind-next : (rest before : List ℕ) (c : ℕ) → IsScalar c → Behind P text rest → rest ≡ before ++ encode c → ¬ P c
      → (d : ℕ) (others : List ℕ) → chars (take (length rest) text) ≡ others ++ d ∷ [] → ¬ P d
  Behind-next rest before c s b e fails d others f =
      let last : chars rest ≡ chars before ++ c ∷ [] = ap chars e ∙ chars-append before (encode c) (rest_seam rest before c b.rest_utf8 e s) ∙ ap (λ cs. chars before ++ cs) (chars_of_one c s) in
      let same = (same_from_push (chars before) others c d (sym last ∙ ap chars (sym (Behind-rest rest b)) ∙ f)).1 in
      subst (λ x. ¬ P x) same fails

  pub none_before : (index : ℕ) → index ≡ 0 → (d : ℕ) (others : List ℕ) → chars (take index text) ≡ others ++ d ∷ [] → ¬ P d
  none_before index e d others f =
      let none : take index text ≡ [] = ap (λ n. take n text) e in
      λ _. absurd (omega (arith, ap length (sym f ∙ ap chars none ∙ chars-nil), length-append others (d ∷ [])))
