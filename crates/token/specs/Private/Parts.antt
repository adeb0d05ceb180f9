-- What the private functions find. Assumes nothing: these are definitions.
use Rattle.std.specs.Prelude.{Bool, true, false, ◌&&◌, cond, List, [], ◌∷◌, ℕ, ◌+◌, ◌-◌, eqb, ℤ, pos, neg_ℤ, length, get_or, take, drop}
use Rattle.lists.specs.Lists.{all}
use Rattle.meaning.specs.Tokens as M
use Rattle.meaning.specs.Tokens.{name, other, is_digit, is_name, folded, keywords, keyword_or, token_from}
use Rattle.token.specs.declared.Kind.{Kind}
use Rattle.token.specs.declared.Kind.TheVariants.{Other, Mark, Comma, Open, Close, Eq, Ne, Lt, Le, Gt, Ge, Dot}
use Rattle.token.specs.declared.Token.{Token}
use Rattle.token.specs.Tokens.{token_of}

-- the bytes of s from `at` up to `end`
abbrev pub part : List ℕ → ℕ → ℕ → List ℕ
part s at end = take (end - at) (drop at s)

-- the value of a constant, by its sign
abbrev pub signed : Bool → ℕ → ℤ
signed true n = neg_ℤ (pos n)
signed false n = pos n

-- digits, one or more
abbrev pub is_number : List ℕ → Bool
is_number [] = false
is_number (b ∷ w) = all is_digit (b ∷ w)

-- a name, if the word is one
abbrev pub name_of : List ℕ → M.Token
name_of w = cond (is_name (folded w)) (name (folded w)) other

-- the token of a word that is not of digits
abbrev pub keyword_or_name_of : List ℕ → M.Token
keyword_or_name_of w = keyword_or keywords (name_of w) w

-- the kind and the length of the sign that the byte b begins, before the byte n
abbrev pub sign_of : ℕ → ℕ → Kind × ℕ
sign_of b n =
    cond (eqb 62 n && eqb 60 b) (Ne, 2)
    (cond (eqb 61 n && eqb 60 b) (Le, 2)
    (cond (eqb 61 n && eqb 62 b) (Ge, 2)
    (cond (eqb 61 b) (Eq, 1)
    (cond (eqb 60 b) (Lt, 1)
    (cond (eqb 62 b) (Gt, 1)
    (cond (eqb 63 b) (Mark, 1)
    (cond (eqb 44 b) (Comma, 1)
    (cond (eqb 40 b) (Open, 1)
    (cond (eqb 41 b) (Close, 1)
    (cond (eqb 46 b) (Dot, 1) (Other, 1)))))))))))

-- the token at a position that holds no space
unfoldable pub read_at : List ℕ → ℕ → Token
read_at s at =
    let x = token_from (get_or s at 0) (drop (at + 1) s) in
    token_of x.0 at (length s - length x.1)
