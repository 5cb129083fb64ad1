-- The configuration of a new repository, and the version of a hash in it.
use Rattle.std.proofs.Common.{◌≡◌, ℕ, Bool, true, false, not, List, [], ◌∷◌, ◌++◌, Option, Some, None, refl, sym, ap, ◌∙◌, append_assoc, append-nil}
use Rattle.std.specs.Prelude.{map, codes}
use Rattle.std.specs.List.{flat_map}
use Rattle.std.proofs.lemmas.Grind.{flat_map-append}
use Rattle.fetch_base.specs.declared.id.Kind.{Kind}
use Rattle.fetch_base.specs.declared.id.Kind.TheVariants as hashes
use Rattle.fetch_config.specs.Contents.{Contents}
use Rattle.fetch_config.specs.Kept.{is_kept_value, is_kept, AreKept}
use Rattle.fetch_config.specs.Lines.{sections_of}
use Rattle.fetch_config.specs.Print.{value_text, entry_text, section_text, text_of}
use Rattle.fetch_config.specs.Written.{is_named, AreNamed, read_from}
use Rattle.fetch_config.specs.declared.meta.Meta.{Meta}
use Rattle.fetch_config.specs.declared.section.Section.{Section}
use Rattle.fetch_config.proofs.WrittenTexts.{says_again}
use Rattle.fetch_create.specs.Configuration.{line, truth, entry, is_bare, symlinks_in, version_in, configuration_of}
use Rattle.fetch_create.specs.Versioned.{versioned, with_only, with_setting, without_setting, without_sections}
use Rattle.fetch_create.specs.declared.create.Capabilities.{Capabilities}
use Rattle.fetch_create.specs.declared.create.Kind.{Kind as Layout}

abbrev Entry : Type 0
Entry = List ℕ × Option (List ℕ)

-- an entry with a truth value
abbrev truly : List ℕ → Bool → Entry
truly key b = (key, Some (truth b))

abbrev symlinks : Bool → List Entry
symlinks true = []
symlinks false = truly (codes "symlinks") false ∷ []

abbrev version : Kind → List ℕ
version hashes.Sha1 = codes "0"
version hashes.Sha256 = codes "1"

abbrev core : Meta → Layout → Capabilities → Kind → Section
core meta kind can hash = record {
  name = codes "core";
  sub = None;
  meta = meta;
  entries = truly (codes "filemode") can.executable_bit ∷ truly (codes "bare") (is_bare kind) ∷ truly (codes "logallrefupdates") (not (is_bare kind))
      ∷ (symlinks can.symlink ++ truly (codes "ignorecase") can.ignore_case ∷ truly (codes "precomposeunicode") can.precompose_unicode ∷ (codes "repositoryformatversion", Some (version hash)) ∷ []);
}

abbrev extensions : Meta → Kind → List Section
extensions meta hashes.Sha1 = []
extensions meta hashes.Sha256 = record { name = codes "extensions"; sub = None; meta = meta; entries = (codes "objectformat", Some (codes "sha256")) ∷ [] } ∷ []

-- the sections of a new repository's configuration
abbrev created : Meta → Layout → Capabilities → Kind → List Section
created meta kind can hash = core meta kind can hash ∷ extensions meta hash

plain-truth : (b : Bool) → value_text (truth b) ≡ truth b
unfolding value_text
plain-truth true = refl
plain-truth false = refl

-- the line of a truth value
truth-line : (key : List ℕ) (b : Bool) → entry_text (truly key b) ≡ entry key (truth b)
truth-line key b = ap (λ v. 9 ∷ (key ++ (32 ∷ 61 ∷ 32 ∷ v) ++ 10 ∷ [])) (plain-truth b) ∙ ap (λ t. 9 ∷ (t ++ 10 ∷ [])) (sym (append_assoc key (codes " = ") (truth b)))

symlink-lines : (can : Bool) → flat_map entry_text (symlinks can) ≡ symlinks_in can
unfolding value_text
symlink-lines true = refl
symlink-lines false = refl

version-line : (hash : Kind) → entry_text (codes "repositoryformatversion", Some (version hash)) ≡ entry (codes "repositoryformatversion") (version hash)
unfolding value_text
version-line hashes.Sha1 = refl
version-line hashes.Sha256 = refl

versions : (hash : Kind) (meta : Meta) → entry (codes "repositoryformatversion") (version hash) ++ flat_map section_text (extensions meta hash) ≡ version_in hash
unfolding value_text
versions hashes.Sha1 meta = refl
versions hashes.Sha256 meta = refl

-- lines in order, those of a list among them
in-order : (f : Entry → List ℕ) (head : List ℕ) (s t u : Entry) (among : List Entry) (v w x : Entry) (a b c m d e g behind : List ℕ) → f s ≡ a → f t ≡ b → f u ≡ c → flat_map f among ≡ m → f v ≡ d → f w ≡ e → f x ≡ g
    → (head ++ flat_map f (s ∷ t ∷ u ∷ (among ++ v ∷ w ∷ x ∷ []))) ++ behind ≡ head ++ a ++ b ++ c ++ m ++ d ++ e ++ (g ++ behind)
in-order f head s t u among v w x a b c m d e g behind p q r n o k l =
    rw (flat_map-append f among (v ∷ w ∷ x ∷ []), p, q, r, n, o, k, l) (simp (append_assoc, append-nil))

-- the text of the sections
text-is : (meta : Meta) (kind : Layout) (can : Capabilities) (hash : Kind) → text_of (created meta kind can hash) ≡ configuration_of kind can hash
unfolding text_of configuration_of
text-is meta kind can hash =
    in-order entry_text (line (codes "[core]")) (truly (codes "filemode") can.executable_bit) (truly (codes "bare") (is_bare kind)) (truly (codes "logallrefupdates") (not (is_bare kind))) (symlinks can.symlink) (truly (codes "ignorecase") can.ignore_case) (truly (codes "precomposeunicode") can.precompose_unicode) (codes "repositoryformatversion", Some (version hash))
    _ _ _ _ _ _ _ (flat_map section_text (extensions meta hash))
    (truth-line (codes "filemode") can.executable_bit) (truth-line (codes "bare") (is_bare kind)) (truth-line (codes "logallrefupdates") (not (is_bare kind))) (symlink-lines can.symlink) (truth-line (codes "ignorecase") can.ignore_case) (truth-line (codes "precomposeunicode") can.precompose_unicode) (version-line hash)
    ∙ ap (λ v. line (codes "[core]") ++ entry (codes "filemode") (truth can.executable_bit) ++ entry (codes "bare") (truth (is_bare kind)) ++ entry (codes "logallrefupdates") (truth (not (is_bare kind)))
    ++ symlinks_in can.symlink ++ entry (codes "ignorecase") (truth can.ignore_case) ++ entry (codes "precomposeunicode") (truth can.precompose_unicode) ++ v)
    (versions hash meta)

kept-truth : (b : Bool) → is_kept_value (Some (truth b)) ≡ true
kept-truth true = refl
kept-truth false = refl

kept-by : (meta : Meta) (kind : Layout) (can : Capabilities) (symlink : Bool) (hash : Kind) → can.symlink ≡ symlink → AreKept (created meta kind can hash)
unfolding is_kept
kept-by meta kind can true hashes.Sha1 e = rw e (simp kept-truth)
kept-by meta kind can true hashes.Sha256 e = rw e (simp kept-truth)
kept-by meta kind can false hashes.Sha1 e = rw e (simp kept-truth)
kept-by meta kind can false hashes.Sha256 e = rw e (simp kept-truth)

named-by : (meta : Meta) (kind : Layout) (can : Capabilities) (symlink : Bool) (hash : Kind) → can.symlink ≡ symlink → AreNamed (created meta kind can hash)
unfolding is_named
named-by meta kind can true hashes.Sha1 e = rw e refl
named-by meta kind can true hashes.Sha256 e = rw e refl
named-by meta kind can false hashes.Sha1 e = rw e refl
named-by meta kind can false hashes.Sha256 e = rw e refl

-- They come from where they are read.
from-itself : (meta : Meta) (kind : Layout) (can : Capabilities) (hash : Kind) → map (read_from meta) (created meta kind can hash) ≡ created meta kind can hash
from-itself meta kind can hashes.Sha1 = refl
from-itself meta kind can hashes.Sha256 = refl

-- what the text says
read-back : (meta : Meta) (kind : Layout) (can : Capabilities) (hash : Kind) → sections_of meta (configuration_of kind can hash) ≡ created meta kind can hash
read-back meta kind can hash =
    ap (sections_of meta) (sym (text-is meta kind can hash))
    ∙ (says_again (created meta kind can hash) (named-by meta kind can can.symlink hash refl) (kept-by meta kind can can.symlink hash refl)).same meta
    ∙ from-itself meta kind can hash

-- The sections take any version.
turned : (meta : Meta) (kind : Layout) (can : Capabilities) (symlink : Bool) (was is : Kind) → can.symlink ≡ symlink → versioned is (record { meta = meta; sections = created meta kind can was }) ≡ record { meta = meta; sections = created meta kind can is }
unfolding versioned with_only with_setting without_setting without_sections
turned meta kind can true hashes.Sha1 hashes.Sha1 e = rw e refl
turned meta kind can true hashes.Sha1 hashes.Sha256 e = rw e refl
turned meta kind can true hashes.Sha256 hashes.Sha1 e = rw e refl
turned meta kind can true hashes.Sha256 hashes.Sha256 e = rw e refl
turned meta kind can false hashes.Sha1 hashes.Sha1 e = rw e refl
turned meta kind can false hashes.Sha1 hashes.Sha256 e = rw e refl
turned meta kind can false hashes.Sha256 hashes.Sha1 e = rw e refl
turned meta kind can false hashes.Sha256 hashes.Sha256 e = rw e refl

-- read, and written with the version of any hash
pub taken : (meta : Meta) (kind : Layout) (can : Capabilities) (was is : Kind) → text_of (versioned is (record { meta = meta; sections = sections_of meta (configuration_of kind can was) })).sections ≡ configuration_of kind can is
taken meta kind can was is =
    ap (λ ss. text_of (versioned is (record { meta = meta; sections = ss })).sections) (read-back meta kind can was)
    ∙ ap (λ (file : Contents). text_of file.sections) (turned meta kind can can.symlink was is refl)
    ∙ text-is meta kind can is
