-- A list of steps lent as words: six words a step and 512 words of buffer a step; four words of answer a step.
use Rattle.std.specs.Prelude.{ℕ, zero, suc, ◌+◌, ◌*◌, ◌≡◌, List, [], ◌∷◌, ◌++◌, get_or, take, drop, Ok, Err}
use Rattle.kinds.specs.Cases.{Case, ◌does◌, case_of}
use Rattle.step.specs.declared.Refusal.TheVariants.{Garbled}
use Rattle.step.specs.declared.Step.{Step}
use Rattle.step.specs.declared.Step.TheVariants.{Command, Front, Z, C, Inhibit, LookAtMe, Scan, Repeat, Stop, Put, PutLent, Processor, Within}
use Rattle.step.specs.declared.Short.{Short}
use Rattle.step.specs.declared.Short.TheVariants.{ShortScan, ShortRepeat, ShortStop}
use Rattle.step.specs.Entries.{general_of}
use Rattle.controller.specs.Steps.{Order, order}
use Rattle.step.specs.Results.{Reading}

-- the six words of a step: which kind it is, then its fields in the line's order, then 0; a put of lent words (11) and a transfer at the trigger processor's entry
-- (17, 18, 19) have no line
unfoldable pub step_words : Step → List ℕ
step_words (Command n a f w) = 1 ∷ n ∷ a ∷ f ∷ w ∷ 0 ∷ []
step_words (Front n a v) = 2 ∷ n ∷ a ∷ v ∷ 0 ∷ 0 ∷ []
step_words Z = 3 ∷ 0 ∷ 0 ∷ 0 ∷ 0 ∷ 0 ∷ []
step_words C = 4 ∷ 0 ∷ 0 ∷ 0 ∷ 0 ∷ 0 ∷ []
step_words (Inhibit v) = 5 ∷ v ∷ 0 ∷ 0 ∷ 0 ∷ 0 ∷ []
step_words LookAtMe = 6 ∷ 0 ∷ 0 ∷ 0 ∷ 0 ∷ 0 ∷ []
step_words (Scan n a f to limit) = 7 ∷ n ∷ a ∷ f ∷ to ∷ limit ∷ []
step_words (Repeat n a f limit tries) = 8 ∷ n ∷ a ∷ f ∷ limit ∷ tries ∷ []
step_words (Stop n a f limit) = 9 ∷ n ∷ a ∷ f ∷ limit ∷ 0 ∷ []
step_words (Put n a to limit w) = 10 ∷ n ∷ a ∷ to ∷ limit ∷ w ∷ []
step_words (PutLent n a to limit) = 11 ∷ n ∷ a ∷ to ∷ limit ∷ 0 ∷ []
step_words (Processor (ShortScan n a f to limit)) = 17 ∷ n ∷ a ∷ f ∷ to ∷ limit ∷ []
step_words (Processor (ShortRepeat n a f limit tries)) = 18 ∷ n ∷ a ∷ f ∷ limit ∷ tries ∷ []
step_words (Processor (ShortStop n a f limit)) = 19 ∷ n ∷ a ∷ f ∷ limit ∷ 0 ∷ []
step_words (Within n to lo hi) = 12 ∷ n ∷ to ∷ lo ∷ hi ∷ 0 ∷ []

-- AT THE TRIGGER PROCESSOR'S ENTRY the first word is ten more than at the general one, and the others are the same
abbrev pub TenMore : Type 0
TenMore = (t : Short) → step_words (Processor t) ≡ (get_or (step_words (general_of t)) 0 0 + 10) ∷ drop 1 (step_words (general_of t))

-- the six words read back: what each first word stands for; words past a step's fields are not looked at
unfoldable pub kinds_of : List ℕ → List (Case Reading)
kinds_of w =
    1 does Ok (Command (get_or w 1 0) (get_or w 2 0) (get_or w 3 0) (get_or w 4 0))
    ∷ 2 does Ok (Front (get_or w 1 0) (get_or w 2 0) (get_or w 3 0))
    ∷ 3 does Ok Z
    ∷ 4 does Ok C
    ∷ 5 does Ok (Inhibit (get_or w 1 0))
    ∷ 6 does Ok LookAtMe
    ∷ 7 does Ok (Scan (get_or w 1 0) (get_or w 2 0) (get_or w 3 0) (get_or w 4 0) (get_or w 5 0))
    ∷ 8 does Ok (Repeat (get_or w 1 0) (get_or w 2 0) (get_or w 3 0) (get_or w 4 0) (get_or w 5 0))
    ∷ 9 does Ok (Stop (get_or w 1 0) (get_or w 2 0) (get_or w 3 0) (get_or w 4 0))
    ∷ 10 does Ok (Put (get_or w 1 0) (get_or w 2 0) (get_or w 3 0) (get_or w 4 0) (get_or w 5 0))
    ∷ 11 does Ok (PutLent (get_or w 1 0) (get_or w 2 0) (get_or w 3 0) (get_or w 4 0))
    ∷ 12 does Ok (Within (get_or w 1 0) (get_or w 2 0) (get_or w 3 0) (get_or w 4 0))
    ∷ 17 does Ok (Processor (ShortScan (get_or w 1 0) (get_or w 2 0) (get_or w 3 0) (get_or w 4 0) (get_or w 5 0)))
    ∷ 18 does Ok (Processor (ShortRepeat (get_or w 1 0) (get_or w 2 0) (get_or w 3 0) (get_or w 4 0) (get_or w 5 0)))
    ∷ 19 does Ok (Processor (ShortStop (get_or w 1 0) (get_or w 2 0) (get_or w 3 0) (get_or w 4 0)))
    ∷ []

-- the step of six words; any other number is garbled
unfoldable pub reading_of : List ℕ → Reading
reading_of w = case_of (get_or w 0 0) (kinds_of w) (Err Garbled)

-- part k of a list that is made of parts of w words
abbrev pub part : (w : ℕ) → List ℕ → ℕ → List ℕ
part w xs k = take w (drop (w * k) xs)

-- the list xs with y for its part k; the rest stays
abbrev pub with_part : (w : ℕ) → List ℕ → ℕ → List ℕ → List ℕ
with_part w xs k y = take (w * k) xs ++ (y ++ drop (w * k + w) xs)

-- step k of the list ws, with part q of the buffers bs as its own buffer
abbrev pub order_at : (ws : List ℕ) (k : ℕ) (bs : List ℕ) (q : ℕ) → Order
order_at ws k bs q = order (reading_of (part 6 ws k)) (part 512 bs q)

-- the first k steps of a list, each with its own buffer
unfoldable pub orders_of : (ws bs : List ℕ) → ℕ → List Order
orders_of ws bs zero = []
orders_of ws bs (suc k) = orders_of ws bs k ++ (order_at ws k bs k ∷ [])
