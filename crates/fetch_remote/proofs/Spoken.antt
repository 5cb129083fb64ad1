-- A conversation that was held to its end, by what was said and heard.
use Rattle.std.proofs.Common.{◌≡◌, ℕ, Bool, List, [], ◌++◌, Option, Ok, refl, ap, ◌∙◌, append_assoc}
use Rattle.fetch_lines.specs.Talks.{Talk, Talks, Talks-then, Talks-none}
use Rattle.fetch_lines.specs.Written.{lines_text}
use Rattle.fetch_conversation.specs.Conversation.{Conversation, ends, sent_in, answer_in, and_then, map_refusal, told_as, AllGave, IsAwaited, Concludes}
use Rattle.fetch_conversation.proofs.Chained.{text_then, answer_then, answer_behind, sent_as, answer_as, awaited_early, awaited_as, awaited_then}
use Rattle.fetch_conversation.proofs.Tied.{awaited_first}
use Rattle.fetch_conversation.specs.ListStage.{ListedValue}
use Rattle.fetch_conversation.specs.declared.conversing.Received.{Received}
use Rattle.fetch_conversation.proofs.Due.{all_gave_then}
use Rattle.fetch_remote.specs.Errors.{preparing, receiving}
use Rattle.fetch_remote.specs.Form.{Given}
use Rattle.fetch_remote.specs.Repositories.{State}
use Rattle.fetch_remote.specs.Stages.{bound_of, listing_stage, pack_stage, receiving_stage, conversation}
use Rattle.fetch_remote.specs.Conversed.{HasTold}

pub record Spoke {X E : Type 0} (answers : Bool) (bound : ℕ) (old new : Option Talk) (pending : List ℕ) (c : Conversation X E) (x : X) (rest said heard : List ℕ) : Type 0 where
  pub passed : Talks answers old new heard said
  pub asked : (more : List ℕ) → lines_text (sent_in bound c (pending ++ (said ++ more))) ≡ heard
  pub answered : (more : List ℕ) → answer_in bound c (pending ++ (said ++ more)) ≡ Ok (x, rest ++ more)
  pub needed : IsAwaited bound old new pending c
  pub gave : AllGave said needed.receives

pub spoke : {X E : Type 0} (answers : Bool) (bound : ℕ) (old new : Option Talk) (pending rest : List ℕ) (c : Conversation X E) (x : X) → (h : Concludes answers bound old new pending c x rest)
    → Spoke answers bound old new pending c x rest h.said h.heard
spoke answers bound old new pending rest c x h = record { passed = h.passed; asked = h.asked; answered = h.answered; needed = h.needed; gave = h.gave }

spoke_end : {X E : Type 0} (answers : Bool) (bound : ℕ) (now : Option Talk) (pending : List ℕ) (x : X) → Spoke {X = X} {E = E} answers bound now now pending (ends (Ok x)) x pending [] []
unfolding sent_in answer_in
spoke_end answers bound now pending x = record { passed = Talks-none answers now; asked = λ more. refl; answered = λ more. refl; needed = awaited_first bound now pending (ends (Ok x)); gave = tt }

spoke_as : {X E F : Type 0} (answers : Bool) (bound : ℕ) (old new : Option Talk) (pending rest said heard : List ℕ) (g : E → F) (c : Conversation X E) (x : X)
    → Spoke answers bound old new pending c x rest said heard → Spoke answers bound old new pending (told_as g c) x rest said heard
spoke_as answers bound old new pending rest said heard g c x h = record {
  passed = h.passed;
  asked = λ more. ap lines_text (sent_as bound g c _) ∙ h.asked more;
  answered = λ more. answer_as bound g c _ ∙ ap (map_refusal g) (h.answered more);
  needed = awaited_as bound old new pending g c h.needed;
  gave = h.gave;
}

spoke_then : {X Y E : Type 0} (answers : Bool) (bound : ℕ) (old mid new : Option Talk) (pending rest left said heard said' heard' : List ℕ) (c : Conversation X E) (f : X → Conversation Y E) (x : X) (y : Y)
    → Spoke answers bound old mid pending c x rest said heard → Spoke answers bound mid new rest (f x) y left said' heard' → Spoke answers bound old new pending (and_then c f) y left (said ++ said') (heard ++ heard')
spoke_then answers bound old mid new pending rest left said heard said' heard' c f x y h k = record {
  passed = Talks-then answers old mid new heard said heard' said' h.passed k.passed;
  asked = λ more. rw append_assoc (text_then bound c f _ _ x (h.answered (said' ++ more)) ∙ ap (λ (l : List ℕ). l ++ lines_text (sent_in bound (f x) (rest ++ (said' ++ more)))) (h.asked (said' ++ more)) ∙ ap (λ (l : List ℕ). heard ++ l) (k.asked more));
  answered = λ more. rw append_assoc (answer_then bound c f _ ∙ ap (answer_behind bound f) (h.answered (said' ++ more)) ∙ k.answered more);
  needed = awaited_then answers bound old mid new pending rest said heard c f x h.passed h.asked h.answered h.needed h.gave k.needed;
  gave = all_gave_then heard said said' h.needed.receives k.needed.receives h.gave k.gave;
}

-- ---- the two stages as one

received_as : (answers : Bool) (old new : Option Talk) (g : Given) (s : State) (l : ListedValue) (r : Option Received) (behind rest : List ℕ) → (h : Concludes answers (bound_of g) old new behind (pack_stage g s l) r rest)
    → Spoke answers (bound_of g) old new behind (receiving_stage g s l) (record { listed = l; received = r }) rest (h.said ++ []) (h.heard ++ [])
unfolding receiving_stage
received_as answers old new g s l r behind rest h =
    spoke_then answers (bound_of g) old new new behind rest rest h.said h.heard [] [] (told_as receiving (pack_stage g s l)) _ r _
    (spoke_as answers (bound_of g) old new behind rest h.said h.heard receiving _ r (spoke answers (bound_of g) old new behind rest _ r h)) (spoke_end answers (bound_of g) new rest _)

abbrev pub said_in : (answers : Bool) (old new : Option Talk) (g : Given) (s : State) (l : ListedValue) (r : Option Received) (rest : List ℕ) → HasTold answers old new g s l r rest → List ℕ
said_in answers old new g s l r rest h = h.list.said ++ (h.pack.said ++ [])

abbrev pub heard_in : (answers : Bool) (old new : Option Talk) (g : Given) (s : State) (l : ListedValue) (r : Option Received) (rest : List ℕ) → HasTold answers old new g s l r rest → List ℕ
heard_in answers old new g s l r rest h = h.list.heard ++ (h.pack.heard ++ [])

pub told_spoken : (answers : Bool) (old new : Option Talk) (g : Given) (s : State) (l : ListedValue) (r : Option Received) (rest : List ℕ) → (h : HasTold answers old new g s l r rest)
    → Spoke answers (bound_of g) old new [] (conversation g s) (record { listed = l; received = r }) rest (said_in answers old new g s l r rest h) (heard_in answers old new g s l r rest h)
unfolding conversation
told_spoken answers old new g s l r rest h =
    spoke_then answers (bound_of g) old h.between new [] h.behind rest h.list.said h.list.heard (h.pack.said ++ []) (h.pack.heard ++ []) (told_as preparing (listing_stage g)) (receiving_stage g s) l _
    (spoke_as answers (bound_of g) old h.between [] h.behind h.list.said h.list.heard preparing _ l (spoke answers (bound_of g) old h.between [] h.behind _ l h.list)) (received_as answers h.between new g s l r h.behind rest h.pack)

-- ---- what was received was awaited

-- what is due in the listing, is so in all of it
pub needed_listing : (g : Given) (s : State) (old new : Option Talk) → IsAwaited (bound_of g) old new [] (listing_stage g) → IsAwaited (bound_of g) old new [] (conversation g s)
unfolding conversation
needed_listing g s old new h = awaited_early (bound_of g) old new [] (told_as preparing (listing_stage g)) (receiving_stage g s) (awaited_as (bound_of g) old new [] preparing (listing_stage g) h)

-- and what is due for the pack, after the listing
pub needed_receiving : (answers : Bool) (g : Given) (s : State) (old mid new : Option Talk) (l : ListedValue) (behind : List ℕ) → (h : Concludes answers (bound_of g) old mid [] (listing_stage g) l behind)
    → IsAwaited (bound_of g) mid new behind (pack_stage g s l) → IsAwaited (bound_of g) old new [] (conversation g s)
unfolding conversation receiving_stage
needed_receiving answers g s old mid new l behind h k =
    awaited_then answers (bound_of g) old mid new [] behind h.said h.heard (told_as preparing (listing_stage g)) (receiving_stage g s) l h.passed (λ more. ap lines_text (sent_as (bound_of g) preparing (listing_stage g) _) ∙ h.asked more)
    (λ more. answer_as (bound_of g) preparing (listing_stage g) _ ∙ ap (map_refusal preparing) (h.answered more)) (awaited_as (bound_of g) old mid [] preparing (listing_stage g) h.needed) h.gave
    (awaited_early (bound_of g) mid new behind (told_as receiving (pack_stage g s l)) _ (awaited_as (bound_of g) mid new behind receiving (pack_stage g s l) k))
