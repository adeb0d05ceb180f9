-- Names for a sentence over two tables: those of both tables and of their columns. What it holds with bare columns, for the limits. Assumes nothing.
use mathlib.Core.Path.{◌≡◌, refl, sym, ap, ◌∙◌, subst}
use mathlib.Core.Bool.{Bool, true, false, not, ◌||◌}
use mathlib.Core.List.{List, ◌∷◌, ◌++◌, map}
use lib.ListN.{length, length-map}
use Rattle.lists.specs.Lists.{All, cons, any}
use Rattle.lists.proofs.Bools.{and_left, and_right, not-false}
use Rattle.lists.proofs.Lists.{All-head, All-tail, All-append, All-map, All-image, any_false, map-append}
use Rattle.meaning.specs.Condition.{Optional, Where, always, under, mapped_in, operands_in, comparisons, comparisons_in, depth_in, replaced_in, renamed}
use Rattle.meaning.specs.Tokens.{Name}
use Rattle.meaning.specs.Grammar as G
use Rattle.meaning.specs.Grammar.{Term, Test, comparison, Dotted, Listed, items}
use Rattle.meaning.specs.Limits.{term_columns, bare_term, columns_named, all_names}
use Rattle.meaning.specs.Names.{same_name, has, is_of}
use Rattle.meaning.proofs.Names.{same-is}
use Rattle.meaning.proofs.Clauses.{comparisons-replaced, depth-replaced}
use Rattle.meaning.proofs.Dotted.{bare-columns}
use Rattle.statement.proofs.SoundNames.{name-has}

-- ---- the names of a sentence

module _ (t : Name) (cs : List Name) (u : Name) (ds : List Name) where
  -- what all names of both tables have, a dotted column's names have
  module _ {P : Name → Type 0} (a : All P (t ∷ cs)) (b : All P (u ∷ ds)) where
    of-has : (n : Name) (ns : List Name) → All P (n ∷ ns) → (c : Dotted) → is_of n ns c ≡ true → P c.0 × P c.1
    of-has n ns h c e = (
      subst P (sym (same-is c.0 n (and_left (same_name c.0 n) (has ns c.1) e))) (All-head h),
      name-has (All-tail h) c.1 (and_right (same_name c.0 n) (has ns c.1) e),
    )

    both-has : (c : Dotted) → not (is_of t cs c || is_of u ds c) ≡ false → P c.0 × P c.1
    both-has c e = go (is_of t cs c) refl (not-false (is_of t cs c || is_of u ds c) e)
      where
        go : (x : Bool) → is_of t cs c ≡ x → (x || is_of u ds c) ≡ true → P c.0 × P c.1
        go true f h = of-has t cs a c f
        go false f h = of-has u ds b c h

    pub pair_names : (L : Listed Dotted) (v : Optional (Test Dotted))
        → any (λ (c : Dotted). not (is_of t cs c || is_of u ds c)) (items L ++ term_columns (operands_in (mapped_in comparison v))) ≡ false → All P (all_names (G.pair L t u v))
    pair_names L v h =
        let w : Where (Term Dotted) = mapped_in comparison v in
        let xs : List Dotted = items L ++ term_columns (operands_in w) in
        let each : All (λ (c : Dotted). P c.0 × P c.1) xs = All-map both-has (any_false (λ (c : Dotted). not (is_of t cs c || is_of u ds c)) xs h) in
        let bare : map (λ (c : Dotted). c.1) xs ≡ columns_named (G.pair L t u v) =
        map-append (λ (c : Dotted). c.1) (items L) (term_columns (operands_in w))
        ∙ ap (λ (ns : List Name). map (λ (c : Dotted). c.1) (items L) ++ ns) (sym (bare-columns w)) in
        let tables : All P (map (λ (c : Dotted). c.0) xs) = All-image (λ (c : Dotted). c.0) (All-map (λ c p. p.0) each) in
        let columns : All P (columns_named (G.pair L t u v)) = subst (All P) bare (All-image (λ (c : Dotted). c.1) (All-map (λ c p. p.1) each)) in
        cons (All-head a) (cons (All-head b) (All-append tables columns))

-- ---- a WHERE with bare columns has the same comparisons and depth

pub bare-count : (w : Where (Term Dotted)) → length (comparisons_in (replaced_in bare_term w)) ≡ length (comparisons_in w)
bare-count always = refl
bare-count (under c) = ap length (comparisons-replaced bare_term c) ∙ length-map (comparisons c) (renamed bare_term)

pub bare-depth : (w : Where (Term Dotted)) → depth_in (replaced_in bare_term w) ≡ depth_in w
bare-depth always = refl
bare-depth (under c) = depth-replaced bare_term c
