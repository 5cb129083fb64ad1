-- The text of a commit, line by line.
use Rattle.std.proofs.Common.{◌≡◌, ℕ, List, [], ◌∷◌, ◌++◌, codes, decimal, Option, refl, ap, sym, ◌∙◌, append_assoc}
use Rattle.std.specs.Prelude.{option_to_list, option_map}
use Rattle.std.specs.List.{flat_map}
use Rattle.fetch_objects.specs.CommitTexts.{commit_text, parent_line}
use Rattle.fetch_objects.specs.Texts.{line}
use Rattle.fetch_base.specs.declared.id.ObjectId.{ObjectId}
use Rattle.fetch_base.specs.Digits.{hex_of}
use Rattle.fetch_bench.specs.Commits.{signature, text_of, tree_id}

-- a word, a text and a line feed are a line
pub line_is : (word text out a b c : List ℕ) → a ≡ out ++ word → b ≡ a ++ text → c ≡ b ++ 10 ∷ [] → c ≡ out ++ line (word ++ text)
line_is word text out a b c first second third = rw (third, second, first) (simp append_assoc)

-- who wrote a commit is the committer's name and email, and when
who_is : (number : ℕ) → codes "A <a@x>" ++ 32 ∷ (decimal number ++ 32 ∷ codes "+0000") ≡ signature number
unfolding signature
who_is number = simp append_assoc

abbrev pub parent_lines : Option ObjectId → List ℕ
parent_lines parent = flat_map parent_line (option_to_list (option_map hex_of parent))

pub text_is : (parent : Option ObjectId) (number : ℕ)
    → text_of parent number ≡ line (codes "tree " ++ hex_of tree_id) ++ (parent_lines parent ++ (line (codes "author " ++ signature number) ++ (line (codes "committer " ++ signature number) ++ line (codes "\n" ++ decimal number))))
unfolding text_of commit_text
text_is parent number = rw (← who_is number) refl

five : (out v w x y z a b c d e : List ℕ) → a ≡ out ++ v → b ≡ a ++ w → c ≡ b ++ x → d ≡ c ++ y → e ≡ d ++ z → e ≡ out ++ (v ++ (w ++ (x ++ (y ++ z))))
five out v w x y z a b c d e first second third fourth fifth = rw (fifth, fourth, third, second, first) (simp append_assoc)

-- the lines of a commit are its text
pub text_grows : (out a b c d e : List ℕ) (tree : ObjectId) (parent : Option ObjectId) (number : ℕ) → tree ≡ tree_id
    → a ≡ out ++ line (codes "tree " ++ hex_of tree) → b ≡ a ++ parent_lines parent → c ≡ b ++ line (codes "author " ++ signature number) → d ≡ c ++ line (codes "committer " ++ signature number)
    → e ≡ d ++ line (codes "\n" ++ decimal number) → e ≡ out ++ text_of parent number
text_grows out a b c d e tree parent number same is_a is_b is_c is_d is_e =
    let first = is_a ∙ ap (λ (id : ObjectId). out ++ line (codes "tree " ++ hex_of id)) same in
    five out _ _ _ _ _ a b c d e first is_b is_c is_d is_e ∙ ap (λ (text : List ℕ). out ++ text) (sym (text_is parent number))
