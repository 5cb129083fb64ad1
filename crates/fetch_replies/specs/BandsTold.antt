-- What bands tell.
use Rattle.std.specs.Prelude.{◌≡◌, ℕ, true, List, [], ◌∷◌, ◌++◌, map, Some, codes, refl}
use Rattle.std.proofs.Common.{append_assoc}
use Rattle.std.proofs.lemmas.List.{append-nil}
use Rattle.std.specs.List.{concat}
use Rattle.fetch_replies.specs.declared.replies.reply.ReplyContext.{ReplyContext}
use Rattle.fetch_replies.specs.declared.replies.reply.ReplyKind.TheVariants.{Reply}
use Rattle.fetch_replies.specs.declared.replies.reply.ParsedReply.TheVariants as told
use Rattle.fetch_lines.specs.declared.lines.line.Line.{Line}
use Rattle.fetch_lines.specs.declared.lines.line.Line.TheVariants.{Payload, Flush}
use Rattle.fetch_replies.specs.declared.replies.parser.Part.TheVariants.{Bands}
use Rattle.fetch_replies.specs.declared.replies.parser.ReplyParser.TheVariants as reading
use Rattle.fetch_lines.specs.declared.requests.records.FetchReply.{FetchReply}
use Rattle.fetch_replies.specs.Awaited.{step_of, start_of}
use Rattle.fetch_lines.specs.FetchRecords.{no_reply}
use Rattle.fetch_replies.specs.FetchReplies.{is_packfile, is_shallow_info}
use Rattle.fetch_replies.specs.LinesTold.{Tells}
use Rattle.fetch_replies.specs.Stepping.{Step, goes}
use Rattle.fetch_lines.specs.Texts.{is_error, without_lf}
use Rattle.fetch_lines.specs.Bands.{Band, Piece, Progress, band_line, pieces_of, texts_of, pack_lines, packed}

first_tells : {S T : Type 0} (step : S → Line → Step S T) (s t : S) (line : Line) (lines : List Line) (x : T) → step s line ≡ goes t
    → Tells step t lines x → Tells step s (line ∷ lines) x
first_tells step s t line [] x goes_on tells = absurd tells
first_tells step s t line (next ∷ lines) x goes_on tells = (t, goes_on, tells)

-- a reply with this much of the pack
abbrev pub behind : FetchReply → List ℕ → List (List ℕ) → FetchReply
behind reply pack progress = record reply { pack = Some pack; progress = progress }

-- Bands tell the pack and the progress texts that they have, after those that were read.
pub bands_tell : (asked : ReplyContext) (reply : FetchReply) (pack : List ℕ) (progress : List (List ℕ)) (bands : List Band)
    → Tells step_of (reading.Reply asked Bands (behind reply pack progress)) (map band_line bands ++ Flush ∷ [])
    (told.Reply (behind reply (pack ++ concat (pieces_of bands)) (progress ++ texts_of bands)))
unfolding step_of
bands_tell asked reply pack progress [] = rw (append-nil pack, append-nil progress) refl
bands_tell asked reply pack progress (Piece bytes ∷ bands) =
    first_tells step_of (reading.Reply asked Bands (behind reply pack progress))
    (reading.Reply asked Bands (behind reply (pack ++ bytes) progress)) (Payload (1 ∷ bytes)) (map band_line bands ++ Flush ∷ [])
    (told.Reply (behind reply (pack ++ (bytes ++ concat (pieces_of bands))) (progress ++ texts_of bands))) refl
    (rw (← append_assoc pack bytes (concat (pieces_of bands))) (bands_tell asked reply (pack ++ bytes) progress bands))
bands_tell asked reply pack progress (Progress text ∷ bands) =
    first_tells step_of (reading.Reply asked Bands (behind reply pack progress))
    (reading.Reply asked Bands (behind reply pack (progress ++ text ∷ []))) (Payload (2 ∷ text)) (map band_line bands ++ Flush ∷ [])
    (told.Reply (behind reply (pack ++ concat (pieces_of bands)) (progress ++ text ∷ texts_of bands))) refl
    (rw (← append_assoc progress (text ∷ []) (texts_of bands)) (bands_tell asked reply pack (progress ++ text ∷ []) bands))

opens : (asked : ReplyContext) → asked.done ≡ true → asked.read_pack ≡ true
    → step_of (start_of (Reply asked)) (Payload (codes "packfile" ++ 10 ∷ [])) ≡ goes (reading.Reply asked Bands (behind no_reply [] []))
unfolding step_of is_error without_lf is_packfile is_shallow_info
opens asked done reads = rw (done, reads) refl

-- A pack is read from its bands, however it is cut.
pub pack_tells : (asked : ReplyContext) (bands : List Band) → asked.done ≡ true → asked.read_pack ≡ true
    → Tells step_of (start_of (Reply asked)) (pack_lines bands) (told.Reply (packed bands))
pack_tells asked bands done reads =
    first_tells step_of (start_of (Reply asked)) (reading.Reply asked Bands (behind no_reply [] [])) (Payload (codes "packfile" ++ 10 ∷ []))
    (map band_line bands ++ Flush ∷ []) (told.Reply (packed bands)) (opens asked done reads)
    (bands_tell asked no_reply [] [] bands)
