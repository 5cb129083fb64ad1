-- Where reading ends, a line or an entry that may stand there doesn't begin.
use Rattle.std.proofs.Common.{◌≡◌, ℕ, zero, suc, ◌≤◌, ◌^◌, true, false, cond, ◌&&◌, List, [], ◌∷◌, ◌++◌, length, flat_map, Option, None, Some, inl, inr, refl, sym, ap, ap₂, subst, ◌∙◌, arith, append_assoc, length-append}
use Rattle.std.specs.Prelude.{codes, nat_eq, nat_le, nat_lt}
use Rattle.std.specs.List.{starts_with}
use Rattle.std.specs.Str.Parse.{digits_value}
use Rattle.std.proofs.lemmas.Bool.{and_from, le-leb, lt-ltb}
use Rattle.fetch_base.specs.declared.id.Kind.{Kind}
use Rattle.fetch_base.specs.declared.object_kind.ObjectKind.{ObjectKind}
use Rattle.fetch_objects.specs.declared.grammar.Expected.{Expected}
use Rattle.fetch_objects.specs.declared.grammar.Expected.TheVariants as expect
use Rattle.fetch_base.specs.Hashing.{name_of}
use Rattle.fetch_base.specs.Scan.{◌>>=◌, split_first, is_decimal}
use Rattle.fetch_base.specs.Lines.{IsWithout}
use Rattle.fetch_objects.specs.Grammar.{Step, id_after, committed, parent_or_author, kind_after, part_at}
use Rattle.fetch_objects.specs.Objects.{Reading, reading, reading_of, first_of, may_end, is_object, place_of}
use Rattle.fetch_objects.specs.Texts.{line as text_line}
use Rattle.fetch_objects.specs.TreeTexts.{entry_text}
use Rattle.fetch_objects.specs.Places.{Signature, IsSignature, signature_text, MayStand, AreWhole, BreaksAt}
use Rattle.fetch_base.proofs.LineLaws.{splits}
use Rattle.fetch_base.proofs.LastLaws.{splits_last}
use Rattle.fetch_objects.proofs.Readings.{bind_some, part_shorter, reading_step, reading_end}
use Rattle.fetch_objects.proofs.TagTexts.{id_after_is, id_after_of, feedless, headline, head_of, tagged, typed, kind_after_is, kind_after_of, kind_feedless}
use Rattle.fetch_base.proofs.Words.{after_of, parts_without, both_without}
use Rattle.fetch_objects.proofs.CommitTexts.{treed, parented, authored, at_seconds, decimal_without, offset_without, Headed, author, parent, headed, signed_of, committed_of, author_part, parent_part}
use Rattle.fetch_objects.proofs.TreeTexts.{made, front_of, part_of}

-- ---- what is read is a line or an entry that may stand there
record Stands (hash : Kind) (e : Expected) (bytes : List ℕ) (s : Step) : Type 0 where
  piece : List ℕ
  may : MayStand hash e piece s.expected
  text : bytes ≡ piece ++ s.rest

behind : (bytes piece rest : List ℕ) (s t : Step) → bytes ≡ piece ++ t.rest → t ≡ s → bytes ≡ piece ++ s.rest
behind bytes piece rest s t text same = text ∙ ap (λ (x : Step). piece ++ x.rest) same

headed_stands : (hash : Kind) (bytes line rest : List ℕ) (s : Step) → bytes ≡ text_line line ++ rest → IsWithout 10 line → Headed hash line rest s → Stands hash expect.ParentOrAuthor bytes s
headed_stands hash bytes line rest s text whole (author a is same) = record {
  piece = text_line line;
  may = inr ((a, (parts_without 10 (codes "author ") a (subst (IsWithout 10) is whole)).1, ap text_line is), sym (ap (λ (x : Step). x.expected) same));
  text = behind bytes (text_line line) rest s (authored rest) text same;
}
headed_stands hash bytes line rest s text whole (parent d is hex id same) = record {
  piece = text_line line;
  may = inl ((d, hex, ap text_line is), sym (ap (λ (x : Step). x.expected) same));
  text = behind bytes (text_line line) rest s (parented id rest) text same;
}

stands : (hash : Kind) (e : Expected) (bytes : List ℕ) (s : Step) → part_at hash e bytes ≡ Some s → Stands hash e bytes s
stands hash expect.TreeLine bytes s is =
    let l = headline bytes (id_after hash (codes "tree ")) treed s is in
    let d = id_after_is hash (codes "tree ") l.0.0 l.2 l.3 in
    record { piece = text_line l.0.0; may = ((d.0, d.2, ap text_line d.1), sym (ap (λ (x : Step). x.expected) l.4)); text = behind bytes (text_line l.0.0) l.0.1 s (treed l.2 l.0.1) l.1 l.4 }
stands hash expect.ParentOrAuthor bytes s is =
    let l = bind_some (split_first 10 bytes) (λ line. parent_or_author hash line.0 line.1) s is in
    let f = (splits 10 bytes).found l.0.0 l.0.1 l.1 in
    headed_stands hash bytes l.0.0 l.0.1 s (f.0 ∙ sym (append_assoc l.0.0 (10 ∷ []) l.0.1)) f.1 (headed hash l.0.0 l.0.1 s (starts_with nat_eq l.0.0 (codes "author ")) refl l.2)
stands hash expect.CommitterLine bytes s is =
    let l = bind_some (split_first 10 bytes) (λ line. committed line.0 >>= λ n. Some (at_seconds n line.1)) s is in
    let n = bind_some (committed l.0.0) (λ n. Some (at_seconds n l.0.1)) s l.2 in
    let same : at_seconds n.0 l.0.1 ≡ s = cc in
    let f = (splits 10 bytes).found l.0.0 l.0.1 l.1 in
    let g = signed_of l.0.0 n.0 n.1 in
    let whole : IsWithout 10 (codes "committer " ++ (g.who ++ 32 ∷ (g.seconds ++ 32 ∷ g.offset))) = subst (IsWithout 10) g.text f.1 in
    let who = parts_without 10 g.who (32 ∷ (g.seconds ++ 32 ∷ g.offset)) (parts_without 10 (codes "committer ") (g.who ++ 32 ∷ (g.seconds ++ 32 ∷ g.offset)) whole).1 in
    let made : Signature = record { who = g.who; seconds = g.seconds; offset = g.offset } in
    let good : IsSignature made = record { who = who.0; decimal = g.decimal; few = g.few; fits = g.fits; offset = g.zone } in
    record {
      piece = text_line l.0.0;
      may = ((made, good, ap text_line g.text), sym (ap (λ (x : Step). x.expected) same));
      text = behind bytes (text_line l.0.0) l.0.1 s (at_seconds n.0 l.0.1) (f.0 ∙ sym (append_assoc l.0.0 (10 ∷ []) l.0.1)) same;
    }
stands hash expect.TaggedLine bytes s is =
    let l = headline bytes (id_after hash (codes "object ")) tagged s is in
    let d = id_after_is hash (codes "object ") l.0.0 l.2 l.3 in
    record { piece = text_line l.0.0; may = ((d.0, d.2, ap text_line d.1), sym (ap (λ (x : Step). x.expected) l.4)); text = behind bytes (text_line l.0.0) l.0.1 s (tagged l.2 l.0.1) l.1 l.4 }
stands hash expect.TypeLine bytes s is =
    let l = headline bytes kind_after typed s is in
    record { piece = text_line l.0.0; may = ((l.2, ap text_line (kind_after_is l.0.0 l.2 l.3)), sym (ap (λ (x : Step). x.expected) l.4)); text = behind bytes (text_line l.0.0) l.0.1 s (typed l.2 l.0.1) l.1 l.4 }
stands hash expect.Entry bytes s is =
    let f = front_of hash bytes s is in
    record { piece = entry_text f.one; may = ((f.one, f.good, refl), sym (ap (λ (x : Step). x.expected) f.step)); text = f.text }
stands hash expect.Anything bytes s is = absurd cc

-- ---- a line or an entry that may stand there is read
signed_says : (s : Signature) → IsSignature s → committed (codes "committer " ++ signature_text s) ≡ Some (digits_value 10 s.seconds)
signed_says s good =
    let v : (is_decimal s.seconds && nat_le (length s.seconds) 19 && nat_lt (digits_value 10 s.seconds) (2 ^ 63)) ≡ true =
    and_from _ _ (and_from _ _ good.decimal (le-leb _ _ good.few)) (lt-ltb _ _ good.fits) in
    committed_of (codes "committer " ++ signature_text s) (signature_text s) (s.who ++ 32 ∷ s.seconds) s.offset s.who s.seconds (digits_value 10 s.seconds)
    (after_of (codes "committer ") (signature_text s))
    ((splits_last 32 (signature_text s)).only (s.who ++ 32 ∷ s.seconds) s.offset (sym (append_assoc s.who (32 ∷ s.seconds) (32 ∷ s.offset))) (offset_without 32 refl refl s.offset good.offset))
    ((splits_last 32 (s.who ++ 32 ∷ s.seconds)).only s.who s.seconds refl (decimal_without 32 refl s.seconds good.decimal))
    good.offset
    (ap (λ b. cond b (Some (digits_value 10 s.seconds)) None) v)

signed_feedless : (s : Signature) → IsSignature s → IsWithout 10 (codes "committer " ++ signature_text s)
signed_feedless s good =
    both_without 10 s.who (32 ∷ (s.seconds ++ 32 ∷ s.offset)) good.who
    (both_without 10 s.seconds (32 ∷ s.offset) (decimal_without 10 refl s.seconds good.decimal) (offset_without 10 refl refl s.offset good.offset))

Read : Kind → Expected → List ℕ → Type 0
Read hash e bytes = (s : Step) × (part_at hash e bytes ≡ Some s)

read_moved : (hash : Kind) (e : Expected) (piece other more : List ℕ) (s : Step) → piece ≡ other → part_at hash e (other ++ more) ≡ Some s → Read hash e (piece ++ more)
unfolding Read
read_moved hash e piece other more s is there = (s, ap (λ p. part_at hash e (p ++ more)) is ∙ there)

is_read : (hash : Kind) (e : Expected) (piece more : List ℕ) (next : Expected) → MayStand hash e piece next → Read hash e (piece ++ more)
is_read hash expect.TreeLine piece more next ((d, hex, is), _) =
    let id = id_after_of hash (codes "tree ") d hex in
    read_moved hash expect.TreeLine piece (text_line (codes "tree " ++ d)) more (treed id.0 more) is (head_of (id_after hash (codes "tree ")) treed (codes "tree " ++ d) more id.0 (feedless d hex.1) id.1)
is_read hash expect.ParentOrAuthor piece more next (inl ((d, hex, is), _)) =
    let id = id_after_of hash (codes "parent ") d hex in
    read_moved hash expect.ParentOrAuthor piece (text_line (codes "parent " ++ d)) more (parented id.0 more) is (parent_part hash d more id.0 hex id.1)
is_read hash expect.ParentOrAuthor piece more next (inr ((a, none, is), _)) =
    read_moved hash expect.ParentOrAuthor piece (text_line (codes "author " ++ a)) more (authored more) is (author_part hash a more none)
is_read hash expect.CommitterLine piece more next ((s, good, is), _) =
    read_moved hash expect.CommitterLine piece (text_line (codes "committer " ++ signature_text s)) more (at_seconds (digits_value 10 s.seconds) more) is
    (head_of committed at_seconds (codes "committer " ++ signature_text s) more (digits_value 10 s.seconds) (signed_feedless s good) (signed_says s good))
is_read hash expect.TaggedLine piece more next ((d, hex, is), _) =
    let id = id_after_of hash (codes "object ") d hex in
    read_moved hash expect.TaggedLine piece (text_line (codes "object " ++ d)) more (tagged id.0 more) is (head_of (id_after hash (codes "object ")) tagged (codes "object " ++ d) more id.0 (feedless d hex.1) id.1)
is_read hash expect.TypeLine piece more next ((k, is), _) =
    read_moved hash expect.TypeLine piece (text_line (codes "type " ++ name_of k)) more (typed k more) is (head_of kind_after typed (codes "type " ++ name_of k) more k (kind_feedless k) (kind_after_of k))
is_read hash expect.Entry piece more next ((e, good, is), _) =
    read_moved hash expect.Entry piece (entry_text e) more (made hash e more) is (part_of hash e more good)
is_read hash expect.Anything piece more next m = absurd m

-- ---- the whole reading
record Ends (hash : Kind) (e : Expected) (bytes : List ℕ) : Type 0 where
  pieces : List (List ℕ)
  expected : Expected
  rest : List ℕ
  whole : AreWhole hash e pieces expected
  text : bytes ≡ flat_map (λ piece. piece) pieces ++ rest
  read : (reading hash e bytes).expected ≡ expected
  left : (reading hash e bytes).rest ≡ rest
  stops : part_at hash expected rest ≡ None

ends_step : (hash : Kind) (e : Expected) (bytes : List ℕ) → ((s : Step) → part_at hash e bytes ≡ Some s → Ends hash s.expected s.rest) → Ends hash e bytes
ends_step hash e bytes later = by_value (part_at hash e bytes) refl
  where
    by_value : (o : Option Step) → part_at hash e bytes ≡ o → Ends hash e bytes
    by_value None is = record {
      pieces = [];
      expected = e;
      rest = bytes;
      whole = refl;
      text = refl;
      read = ap (λ (r : Reading). r.expected) (reading_end hash e bytes is);
      left = ap (λ (r : Reading). r.rest) (reading_end hash e bytes is);
      stops = is;
    }
    by_value (Some s) is =
        let first = stands hash e bytes s is in
        let more = later s is in
        record {
          pieces = first.piece ∷ more.pieces;
          expected = more.expected;
          rest = more.rest;
          whole = (s.expected, first.may, more.whole);
          text = first.text ∙ ap (λ y. first.piece ++ y) more.text ∙ sym (append_assoc first.piece (flat_map (λ piece. piece) more.pieces) more.rest);
          read = ap (λ (r : Reading). r.expected) (reading_step hash e bytes s is) ∙ more.read;
          left = ap (λ (r : Reading). r.rest) (reading_step hash e bytes s is) ∙ more.left;
          stops = more.stops;
        }

ends_of : (n : ℕ) (hash : Kind) (e : Expected) (bytes : List ℕ) → length bytes ≤ n → Ends hash e bytes
ends_of zero hash e bytes short = ends_step hash e bytes (λ s is. let fewer = part_shorter hash e bytes s is in absurd (omega arith))
ends_of (suc m) hash e bytes short = ends_step hash e bytes (λ s is. let fewer = part_shorter hash e bytes s is in ends_of m hash s.expected s.rest (omega arith))

pub breaks_at : (hash : Kind) (kind : ObjectKind) (bytes : List ℕ) → is_object hash kind bytes ≡ false → BreaksAt hash kind bytes (place_of hash kind bytes)
unfolding Read
breaks_at hash kind bytes broken =
    let e = ends_of (length bytes) hash (first_of kind) bytes (omega arith) in
    let front : List ℕ = flat_map (λ piece. piece) e.pieces in
    let whole : length bytes ≡ length (front ++ e.rest) = ap length e.text in
    let left : length (reading_of hash kind bytes).rest ≡ length e.rest = ap length e.left in
    record {
      pieces = e.pieces;
      expected = e.expected;
      rest = e.rest;
      whole = e.whole;
      text = e.text;
      place_is = omega (arith, length-append front e.rest, whole, left);
      none = λ piece more next may is.
          let r = is_read hash e.expected piece more next may in
          let both : Some r.0 ≡ None = sym r.1 ∙ ap (part_at hash e.expected) (sym is) ∙ e.stops in
          absurd cc;
      unended = ap₂ (λ x y. may_end x y) (sym e.read) (sym e.left) ∙ broken;
    }
