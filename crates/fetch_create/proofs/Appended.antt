-- What is added at an end, one thing after the other.
use Rattle.std.proofs.Common.{◌≡◌, List, ◌++◌, ap, ◌∙◌, append_assoc}

pub behind : {A : Type 0} (a b before between now : List A) → between ≡ before ++ a → now ≡ between ++ b → now ≡ before ++ (a ++ b)
behind a b before between now p q = q ∙ ap (λ l. l ++ b) p ∙ append_assoc before a b
