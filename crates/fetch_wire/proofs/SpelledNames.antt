-- Names, capabilities and references of an advertisement of version 1 that was read.
use Rattle.std.proofs.Common.{◌≡◌, ◌≢◌, ℕ, ◌-◌, Bool, true, false, not, ◌&&◌, List, [], ◌∷◌, ◌++◌, map, length, take, drop, Option, Some, None, refl, sym, ap, ap₂, ◌∙◌, subst, append_assoc, take-append-drop, All, codes, bytes_eq, ◌==◌}
use Rattle.std.specs.Prelude.{if◌then◌else◌}
use Rattle.std.specs.List.{list_all}
use Rattle.std.specs.Option.{option_map, option_and_then}
use Rattle.std.proofs.lemmas.Bool.{eqb-true}
use Rattle.std.proofs.lemmas.List.{append-nil}
use Rattle.std.proofs.lemmas.List.Elements.{All-nil, All-cons, All-head, All-tail}
use Rattle.std.proofs.lemmas.Slice.Eq.{bytes_eq-Decides}
use Rattle.fetch_base.specs.Id.{id_in_hex}
use Rattle.fetch_base.specs.Lines.{IsWithout}
use Rattle.fetch_base.specs.Scan.{split_first}
use Rattle.fetch_base.specs.declared.id.Kind.{Kind}
use Rattle.fetch_base.specs.declared.id.ObjectId.{ObjectId}
use Rattle.fetch_base.proofs.LineLaws.{splits}
use Rattle.fetch_lines.specs.declared.greetings.handshake.Capability.{Capability}
use Rattle.fetch_lines.specs.declared.greetings.handshake.Handshake.{Handshake}
use Rattle.fetch_lines.specs.declared.listings.reference.Ref.{Ref}
use Rattle.fetch_lines.specs.declared.listings.reference.Ref.TheVariants.{Direct, Symbolic, Peeled, Unborn}
use Rattle.fetch_wire.specs.AdvertisementSpellings.{some_words, AreWords, IsNamed}
use Rattle.fetch_replies.specs.Advertisements.{with_word, with_words, target_among, id_and_name, before_peel, advertised, peeled_to, with_peel}
use Rattle.fetch_lines.specs.Greetings.{capability_in, if_known}
use Rattle.fetch_replies.specs.Listings.{is_listed, ref_with}
use Rattle.fetch_lines.specs.References.{name_in, id_in, peeled_in, target_in}
use Rattle.fetch_lines.specs.ServerLines.{capability_text, IsTellable}
use Rattle.fetch_lines.specs.Texts.{is_error}
use Rattle.fetch_lines.specs.Words.{words}
use Rattle.fetch_replies.proofs.Peeling.{peel_front}
use Rattle.fetch_wire.proofs.Spelled.{capability_told}
use Rattle.fetch_wire.proofs.SpelledListing.{wording, made}

pub exactly : (a b : List ℕ) → bytes_eq a b ≡ true → a ≡ b
exactly a b is = (bytes_eq-Decides a b).0 is

-- ---- capabilities

-- a word that no space divides isn't that of a server that fails
no_error_in : (word : List ℕ) → IsWithout 32 word → is_error (word ++ 10 ∷ []) ≡ false
unfolding is_error
no_error_in [] none = refl
no_error_in (a ∷ []) none = by_one (69 == a)
  where
    by_one : (x : Bool) → (x && false) ≡ false
    by_one true = refl
    by_one false = refl
no_error_in (a ∷ b ∷ []) none = by_two (69 == a) (82 == b)
  where
    by_two : (x y : Bool) → (x && (y && false)) ≡ false
    by_two true true = refl
    by_two true false = refl
    by_two false y = refl
no_error_in (a ∷ b ∷ c ∷ []) none = by_three (69 == a) (82 == b) (82 == c)
  where
    by_three : (x y z : Bool) → (x && (y && (z && false))) ≡ false
    by_three true true true = refl
    by_three true true false = refl
    by_three true false z = refl
    by_three false y z = refl
no_error_in (a ∷ b ∷ c ∷ d ∷ word) none = by_space (32 == d) refl
  where
    by_all : (x y z : Bool) → (x && (y && (z && false))) ≡ false
    by_all true true true = refl
    by_all true true false = refl
    by_all true false z = refl
    by_all false y z = refl

    space_not : (p q r s : Bool) → s ≡ true → (not p && (not q && (not r && (not s && list_all (λ x. not (x == 32)) word)))) ≡ true → ⊥
    space_not true q r s e h = cc
    space_not false true r s e h = cc
    space_not false false true s e h = cc
    space_not false false false s e h = let t = rw e at h in cc

    by_space : (t : Bool) → (32 == d) ≡ t → ((69 == a) && ((82 == b) && ((82 == c) && (t && true)))) ≡ false
    by_space false is = by_all (69 == a) (82 == b) (82 == c)
    by_space true is = absurd (space_not (a == 32) (b == 32) (c == 32) (d == 32) (ap (λ (x : ℕ). x == 32) (sym (eqb-true _ _ is))) none)

-- capabilities of words after those before them
record Capabilities (found : List Capability) (all : List (List ℕ)) (more : List Capability) : Type 0 where
  capabilities : List Capability
  is : more ≡ found ++ capabilities
  words : map capability_text capabilities ≡ some_words all
  tellable : All IsTellable capabilities

one_word : (found : List Capability) (b : ℕ) (bytes : List ℕ) (more : List Capability) → with_word found (b ∷ bytes) ≡ Some more → (c : Capability) × (option_and_then if_known (capability_in (b ∷ bytes)) ≡ Some c) × (more ≡ found ++ c ∷ [])
one_word found b bytes more is = by (option_and_then if_known (capability_in (b ∷ bytes))) refl is
  where
    by : (o : Option Capability) → option_and_then if_known (capability_in (b ∷ bytes)) ≡ o → option_map (λ capability. found ++ capability ∷ []) o ≡ Some more → (c : Capability) × (option_and_then if_known (capability_in (b ∷ bytes)) ≡ Some c) × (more ≡ found ++ c ∷ [])
    by None e h = absurd cc
    by (Some c) e h = (c, e, cc)

capable : (found : List Capability) (all : List (List ℕ)) (more : List Capability) → All (IsWithout 32) all → with_words found all ≡ Some more → Capabilities found all more
capable found [] more whole is = record { capabilities = []; is = (let e : found ≡ more = cc in sym e) ∙ sym (append-nil found); words = refl; tellable = All-nil IsTellable }
capable found ([] ∷ others) more whole is =
    let rest = capable found others more (All-tail (IsWithout 32) [] others whole) is in record { capabilities = rest.capabilities; is = rest.is; words = rest.words; tellable = rest.tellable }
capable found ((b ∷ bytes) ∷ others) more whole is = by (with_word found (b ∷ bytes)) refl is (λ now. capable now others more (All-tail (IsWithout 32) (b ∷ bytes) others whole))
  where
    by : (o : Option (List Capability)) → with_word found (b ∷ bytes) ≡ o → option_and_then (λ now. with_words now others) o ≡ Some more
        → ((now : List Capability) → with_words now others ≡ Some more → Capabilities now others more) → Capabilities found ((b ∷ bytes) ∷ others) more
    by None e h again = absurd cc
    by (Some now) e h again =
        let one = one_word found b bytes now e in
        let rest = again now h in
        let w = capability_told (b ∷ bytes) one.0 one.1 in
        let no_error : is_error (capability_text one.0 ++ 10 ∷ []) ≡ false = ap (λ (t : List ℕ). is_error (t ++ 10 ∷ [])) (sym w.text) ∙ no_error_in (b ∷ bytes) (All-head (IsWithout 32) (b ∷ bytes) others whole) in
        record {
          capabilities = one.0 ∷ rest.capabilities;
          is = rest.is ∙ ap (λ (l : List Capability). l ++ rest.capabilities) one.2 ∙ append_assoc found (one.0 ∷ []) rest.capabilities;
          words = ap₂ (λ (t : List ℕ) (ts : List (List ℕ)). t ∷ ts) (sym w.text) rest.words;
          tellable = All-cons IsTellable one.0 rest.capabilities (record { named = w.named; plain = w.plain; known = w.known; no_error = no_error }) rest.tellable;
        }

-- what the text after the NUL tells
pub record Offered (capabilities : List Capability) (said : List ℕ) : Type 0 where
  pub words : AreWords (map capability_text capabilities) said
  pub tellable : All IsTellable capabilities

pub offered : (said : List ℕ) (capabilities : List Capability) → with_words [] (words said) ≡ Some capabilities → Offered capabilities said
offered said capabilities is =
    let w = wording said in
    let whole : All (IsWithout 32) (w.word ∷ w.others) = All-cons (IsWithout 32) w.word w.others w.is.first w.is.all in
    let c = capable [] (w.word ∷ w.others) capabilities whole (ap (with_words []) (sym w.words) ∙ is) in
    subst (λ (cs : List Capability). Offered cs said) (sym c.is)
    (record { words = record { all = w.word ∷ w.others; text = w.is.is; whole = whole; some = c.words }; tellable = c.tellable })

pub some_is : {A : Type 0} (x y : A) → Some x ≡ Some y → x ≡ y
some_is x y e = cc

-- ---- names

pub named_of : (kind : Kind) (said : List ℕ) (id : ObjectId) (name : List ℕ) → id_and_name kind said ≡ Some (id, name) → IsNamed kind id name said
named_of kind said id name is = by_split (split_first 32 said) refl is
  where
    by_id : (digits behind : List ℕ) (o : Option ObjectId) → id_in_hex kind digits ≡ o → said ≡ digits ++ 32 ∷ behind → option_map {U = ObjectId × List ℕ} (λ x. (x, behind)) o ≡ Some (id, name) → IsNamed kind id name said
    by_id digits behind None e text h = absurd cc
    by_id digits behind (Some x) e text h =
        let pair = some_is {A = ObjectId × List ℕ} (x, behind) (id, name) h in
        let same : x ≡ id = ap (λ (p : ObjectId × List ℕ). p.0) pair in
        let also : behind ≡ name = ap (λ (p : ObjectId × List ℕ). p.1) pair in
        record { digits = digits; text = text ∙ ap (λ (t : List ℕ). digits ++ 32 ∷ t) also; is = e ∙ ap (λ (y : ObjectId). Some y) same }

    by_split : (o : Option (List ℕ × List ℕ)) → split_first 32 said ≡ o → option_and_then (λ parts. option_map {U = ObjectId × List ℕ} (λ x. (x, parts.1)) (id_in_hex kind parts.0)) o ≡ Some (id, name) → IsNamed kind id name said
    by_split None e h = absurd cc
    by_split (Some (digits, behind)) e h = by_id digits behind (id_in_hex kind digits) refl ((splits 32 said).found digits behind e).0 h

pub peel_is : (name short : List ℕ) → before_peel name ≡ Some short → name ≡ short ++ codes "^{}"
unfolding before_peel
peel_is name short is = by_end (bytes_eq (drop (length name - 3) name) (codes "^{}")) refl is
  where
    by_end : (b : Bool) → bytes_eq (drop (length name - 3) name) (codes "^{}") ≡ b → (if b then Some (take (length name - 3) name) else None) ≡ Some short → name ≡ short ++ codes "^{}"
    by_end true e h =
        let front : take (length name - 3) name ≡ short = cc in
        sym (take-append-drop (length name - 3) name) ∙ ap₂ (λ (a b : List ℕ). a ++ b) front (exactly (drop (length name - 3) name) (codes "^{}") e)
    by_end false e h = absurd cc

-- a reference of which nothing is told yet of what it peels to
pub record IsFresh (handshake : Handshake) (r : Ref) (id : ObjectId) (name : List ℕ) : Type 0 where
  pub name_is : name_in r ≡ name
  pub some : name ≢ []
  pub born : id_in r ≡ Some id
  pub unpeeled : peeled_in r ≡ None
  pub target : target_in r ≡ target_among name handshake.capabilities

made_fresh : (r : Ref) (name : List ℕ) (id : ObjectId) (target : Option (List ℕ)) → ref_with name (Some id) (target, None) ≡ Some r → peeled_in r ≡ None
made_fresh r name id target is = (made r name (Some id) (target, None) is).peeled

pub fresh : (h : Handshake) (before : List Ref) (id : ObjectId) (name : List ℕ) (r : Ref) → advertised h before id name ≡ Some r → IsFresh h r id name
fresh h before id [] r is = absurd cc
fresh h before id (c ∷ cs) r is = by_ref (ref_with (c ∷ cs) (Some id) (target_among (c ∷ cs) h.capabilities, None)) refl is
  where
    by_new : (s : Ref) (b : Bool) → ref_with (c ∷ cs) (Some id) (target_among (c ∷ cs) h.capabilities, None) ≡ Some s → (if b then None else Some s) ≡ Some r → IsFresh h r id (c ∷ cs)
    by_new s true e g = absurd cc
    by_new s false e g =
        let same : s ≡ r = cc in
        let m = made r (c ∷ cs) (Some id) (target_among (c ∷ cs) h.capabilities, None) (e ∙ ap (λ (x : Ref). Some x) same) in
        record { name_is = m.name; some = λ x. cc; born = m.id; unpeeled = m.peeled; target = m.target }

    by_ref : (o : Option Ref) → ref_with (c ∷ cs) (Some id) (target_among (c ∷ cs) h.capabilities, None) ≡ o → option_and_then (λ s. if is_listed before s then None else Some s) o ≡ Some r → IsFresh h r id (c ∷ cs)
    by_ref None e g = absurd cc
    by_ref (Some s) e g = by_new s (is_listed before s) e g

-- what its tag peels to was told
pub record IsPeeledTo (r s : Ref) (id : ObjectId) : Type 0 where
  pub name : name_in s ≡ name_in r
  pub born : id_in s ≡ id_in r
  pub target : target_in s ≡ target_in r
  pub peeled : peeled_in s ≡ Some id

pub peeled_so : (r : Ref) (own id : ObjectId) → id_in r ≡ Some own → peeled_in r ≡ None → IsPeeledTo r (peeled_to id r) id
peeled_so (Direct name object) own id born none = record { name = refl; born = refl; target = refl; peeled = refl }
peeled_so (Symbolic name target None object) own id born none = record { name = refl; born = refl; target = refl; peeled = refl }
peeled_so (Symbolic name target (Some tag) object) own id born none = absurd cc
peeled_so (Peeled name tag object) own id born none = absurd cc
peeled_so (Unborn name target) own id born none = absurd cc

pub last_peeled : (id : ObjectId) (name : List ℕ) (front : List Ref) (r : Ref) (refs : List Ref) → with_peel id name (front ++ r ∷ []) ≡ Some refs → (name_in r ≡ name) × (refs ≡ front ++ peeled_to id r ∷ [])
last_peeled id name front r refs is = by_name (bytes_eq (name_in r) name) refl (sym (peel_front id name front r) ∙ is)
  where
    by_name : (b : Bool) → bytes_eq (name_in r) name ≡ b → (if b then Some (front ++ peeled_to id r ∷ []) else None) ≡ Some refs → (name_in r ≡ name) × (refs ≡ front ++ peeled_to id r ∷ [])
    by_name true e h = (exactly (name_in r) name e, (let s : front ++ peeled_to id r ∷ [] ≡ refs = cc in sym s))
    by_name false e h = absurd cc
