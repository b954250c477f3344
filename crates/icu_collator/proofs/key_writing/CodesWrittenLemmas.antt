-- Items written one after another, as a loop writes them.
use Rattle.std.proofs.Common.{◌≡◌, ℕ, ◌<◌, ◌≤◌, ◌+◌, List, [], ◌∷◌, ◌++◌, length, drop, get_or, sym, ◌∙◌, ap, append_assoc}
use Rattle.std.proofs.lemmas.List.{append-nil, drop_more, drop_all}
use Rattle.icu_collator.specs.KeyBytes.{codes_from}

-- with one more item written
pub codes_go_on :
    {S : Type 0} (code : S → ℕ → List ℕ) (next : S → ℕ → S) (s t : S) (ws : List ℕ) (i : ℕ) (whole before after : List ℕ) → i < length ws
    → before ++ codes_from code next s (drop i ws) ≡ whole → after ≡ before ++ code s (get_or ws i 0) → t ≡ next s (get_or ws i 0)
    → after ++ codes_from code next t (drop (i + 1) ws) ≡ whole
unfolding codes_from
codes_go_on code next s t ws i whole before after inside so_far written is =
    let w = get_or ws i 0 in
    let rest = drop (i + 1) ws in
    ap (λ l. l ++ codes_from code next t rest) written
    ∙ append_assoc before (code s w) (codes_from code next t rest)
    ∙ ap (λ u. before ++ (code s w ++ codes_from code next u rest)) is
    ∙ ap (λ l. before ++ codes_from code next s l) (sym (drop_more ws i 0 inside)) ∙ so_far

-- with none left
pub codes_end :
    {S : Type 0} (code : S → ℕ → List ℕ) (next : S → ℕ → S) (s : S) (ws : List ℕ) (i : ℕ) (whole before : List ℕ) → length ws ≤ i
    → before ++ codes_from code next s (drop i ws) ≡ whole → before ≡ whole
unfolding codes_from
codes_end code next s ws i whole before past so_far =
    sym (append-nil before) ∙ sym (ap (λ l. before ++ codes_from code next s l) (drop_all i ws past)) ∙ so_far

-- two pieces written one after the other
pub two_pieces :
    (start first rest whole between after : List ℕ) → between ≡ start ++ first → after ≡ between ++ rest → whole ≡ first ++ rest → after ≡ start ++ whole
two_pieces start first rest whole between after written written_too is =
    written_too ∙ ap (λ l. l ++ rest) written ∙ append_assoc start first rest ∙ ap (λ l. start ++ l) (sym is)

-- a level between the byte that separates it from the one before and the one that ends it
pub level_written :
    (start level whole first second after : List ℕ) → first ≡ start ++ 0x01 ∷ [] → second ≡ first ++ level → after ≡ second ++ 0x01 ∷ []
    → level ≡ whole → after ≡ start ++ 0x01 ∷ (whole ++ 0x01 ∷ [])
level_written start level whole first second after separated written ended is =
    ended ∙ ap (λ l. l ++ 0x01 ∷ []) written ∙ append_assoc first level (0x01 ∷ []) ∙ ap (λ l. l ++ (level ++ 0x01 ∷ [])) separated
    ∙ append_assoc start (0x01 ∷ []) (level ++ 0x01 ∷ []) ∙ ap (λ l. start ++ 0x01 ∷ (l ++ 0x01 ∷ [])) is
