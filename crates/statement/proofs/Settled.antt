-- A call that is not taken, by its refusal. Assumes nothing.
use Rattle.std.proofs.Common.{◌≡◌, ◌∙◌, refl, ap, Option as Maybe, Some, None, Result, Ok, Err, ok_or}
use Rattle.std.specs.Result.{IsErrAnd}
use Rattle.statement.specs.declared.Refusal.{Refusal}
use Rattle.statement.specs.declared.Refusal.TheVariants.{Opening}
use Rattle.statement.specs.declared.Statement.{Statement}
use Rattle.statement.specs.Refusals.{number_of}
use Rattle.statement.specs.Compiled.{Compiled, compiled, compiled_refusal, compiled_by}

settled-by : (r : Refusal) (done : Compiled) → compiled_refusal (number_of r) ≡ compiled_by (number_of r) done
settled-by Opening done = refl
settled-by _ done = refl

-- what the exit of a `?` returns
pub refused-is : (x : Result Statement Refusal) (r : Refusal) (done : Compiled) → IsErrAnd x (λ (y : Refusal). y ≡ r) → compiled x ≡ compiled_by (number_of r) done
refused-is (Ok s) r done h = absurd h
refused-is (Err y) r done h = ap (λ (z : Refusal). compiled_refusal (number_of z)) h ∙ settled-by r done

-- that of what is not there, by the refusal k
pub none-is : {A : Type 0} (k : Refusal) (o : Maybe A) (x : Result Statement Refusal) (r : Refusal) → Err r ≡ ok_or o k → IsErrAnd x (λ (y : Refusal). y ≡ r) → (o ≡ None) × (compiled x ≡ compiled_refusal (number_of k))
none-is k (Some i) x r e h = absurd (cc)
none-is k None (Ok s) r e h = absurd h
none-is k None (Err y) r e h = let q : r ≡ k = cc in (refl, ap (λ (z : Refusal). compiled_refusal (number_of z)) (h ∙ q))
