use Rattle.std.proofs.Common.{◌∙◌}
use Rattle.soundness.proofs.Packed.{code-packed, code-none}
use Rattle.soundness.proofs.names.Digits.code.Goals as goal

pub returns-then-n-is_ascii_lowercase : goal.returns-then-n-is_ascii_lowercase
returns-then-n-is_ascii_lowercase c = c.packed.ensures ∙ rw c.from-n.ensures (code-packed c.args.name.now (rw (c.from-n.ensures, c.is_ascii_lowercase.ensures.value) at c.if-n-is_ascii_lowercase.true))

pub returns : goal.returns
returns c = code-none c.args.name.now (rw (c.from-n.ensures, c.is_ascii_lowercase.ensures.value) at c.if-n-is_ascii_lowercase.false)
