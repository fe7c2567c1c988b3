-- That demand 3 is about something: steps of the crate in an order that may be changed, and in one that may not.
-- Assumes nothing.
use mathlib.Core.Path.{◌≡◌, refl, sym, ap, ◌∙◌}
use mathlib.Core.Bool.{true, false, true≢false}
use mathlib.Core.List.{List, [], ◌∷◌}
use Prim.Native.Nat.{ℕ, zero, suc, ◌<◌}
use native.Mathlib.Omega.{arith}
use borrow.Author.Tests.{eqb-true}
use lib.ListN.{length, get_or, replicate}
use lib.Dec.{eqb}
use Rattle.regroup.specs.Lists.{outs, arranged, Common, Rearranged, Alike}
use Rattle.regroup.proofs.Whole.{as_long, step-at}
use Rattle.kinds.specs.Table.{in_table}
use Rattle.blocks.specs.Blocks.{block_of, with_block}
use Rattle.station.specs.Block.{sources_of, is_used, header_tests, is_fit_header, is_fit_spare, is_fit_register, fit_tests, is_fit_block}
use Rattle.station.specs.Group1.{read_of}
use Rattle.station.specs.Command.{functions_of, command_of}
use Rattle.dataway.specs.Crate.{FitCrate, empty_crate, is_fit_rest, is_fit_station, is_fit_cover, crate_tests, is_fit_crate}
use Rattle.dataway.specs.Stations.{reply_of, after_command, occupied_by, with_module}
use Rattle.dataway.specs.Addressed.{sent_of}
use Rattle.dataway.proofs.CrateLaws.{crate-facts}
use Rattle.transfer.specs.Cycle.{keep}
use Rattle.transfer.specs.Repeat.{repeat_next, repeat_from}
use Rattle.transfer.specs.Stop.{stop_next, stop_from}
use Rattle.step.specs.Verdict.{command_verdict, front_verdict, scan_verdict, repeat_verdict, stop_verdict, short_repeat_verdict, short_stop_verdict}
use Rattle.step.specs.declared.Step.TheVariants.{Command, Front, Z, Scan, Repeat, Stop, Processor}
use Rattle.step.specs.declared.Short.TheVariants.{ShortRepeat, ShortStop}
use Rattle.controller.specs.declared.Answer.TheVariants.{Replied, Transferred}
use Rattle.controller.specs.Steps.{Order, order, Out, leaves, gives, touches, step_of, done_of}
use Rattle.controller.specs.Regrouping.{beyond}
use Rattle.controller.proofs.StepLaws.{crate-regroup}
use Rattle.std.specs.Prelude.{Ok}

-- an event at station 3, a scan from 3 to 5 that is refused because no buffer is lent, an event at station 5, and Z
abbrev pub at3 : Order
at3 = order (Ok (Front 3 0 1)) []

abbrev pub unlent : Order
unlent = order (Ok (Scan 3 0 0 5 1)) []

abbrev pub at5 : Order
at5 = order (Ok (Front 5 0 1)) []

abbrev pub all : Order
all = order (Ok Z) []

touches-3 : (k : ℕ) → touches at3 k ≡ eqb 3 k
unfolding front_verdict
touches-3 k = refl

touches-5 : (k : ℕ) → touches at5 k ≡ eqb 5 k
unfolding front_verdict
touches-5 k = refl

touches-unlent : (k : ℕ) → touches unlent k ≡ false
unfolding scan_verdict
touches-unlent k = refl

touches-all : (k : ℕ) → touches all k ≡ true
touches-all k = refl

-- ---- a rearrangement
abbrev pub places : List ℕ
places = 2 ∷ 1 ∷ 0 ∷ 3 ∷ []

-- the two events change places past the refused scan; Z stays last
pub sample : Rearranged touches beyond (at3 ∷ unlent ∷ at5 ∷ all ∷ []) (at5 ∷ unlent ∷ at3 ∷ all ∷ []) places
sample = record { second = refl; places = below; each = every; once = once; order = kept }
  where
    below : (k : ℕ) → k < 4 → get_or places k 0 < 4
    below zero h = omega arith
    below (suc zero) h = omega arith
    below (suc (suc zero)) h = omega arith
    below (suc (suc (suc zero))) h = omega arith
    below (suc (suc (suc (suc k)))) h = absurd (omega arith)

    every : (i : ℕ) → i < 4 → (k : ℕ) × (k < 4) × (get_or places k 0 ≡ i)
    every zero h = (2, omega arith, refl)
    every (suc zero) h = (1, omega arith, refl)
    every (suc (suc zero)) h = (0, omega arith, refl)
    every (suc (suc (suc zero))) h = (3, omega arith, refl)
    every (suc (suc (suc (suc i)))) h = absurd (omega arith)

    back : ℕ → ℕ
    back n = get_or places n 0

    there : (k : ℕ) → k < 4 → back (get_or places k 0) ≡ k
    there zero h = refl
    there (suc zero) h = refl
    there (suc (suc zero)) h = refl
    there (suc (suc (suc zero))) h = refl
    there (suc (suc (suc (suc k)))) h = absurd (omega arith)

    once : (j k : ℕ) → j < 4 → k < 4 → get_or places j 0 ≡ get_or places k 0 → j ≡ k
    once j k a b e = sym (there j a) ∙ ap back e ∙ there k b

    kept : (j k : ℕ) → j < k → k < 4
        → Common touches (get_or (at5 ∷ unlent ∷ at3 ∷ all ∷ []) j beyond) (get_or (at5 ∷ unlent ∷ at3 ∷ all ∷ []) k beyond) → get_or places j 0 < get_or places k 0
    kept zero (suc zero) a b c = absurd (true≢false (sym c.4 ∙ touches-unlent c.0))
    kept zero (suc (suc zero)) a b c =
        absurd (omega (arith, eqb-true 5 c.0 (sym (touches-5 c.0) ∙ c.3), eqb-true 3 c.0 (sym (touches-3 c.0) ∙ c.4)))
    kept (suc zero) (suc (suc zero)) a b c = absurd (true≢false (sym c.3 ∙ touches-unlent c.0))
    kept zero (suc (suc (suc zero))) a b c = omega arith
    kept (suc zero) (suc (suc (suc zero))) a b c = omega arith
    kept (suc (suc zero)) (suc (suc (suc zero))) a b c = omega arith
    kept j zero a b c = absurd (omega arith)
    kept (suc j) (suc zero) a b c = absurd (omega arith)
    kept (suc (suc j)) (suc (suc zero)) a b c = absurd (omega arith)
    kept (suc (suc (suc j))) (suc (suc (suc zero))) a b c = absurd (omega arith)
    kept j (suc (suc (suc (suc k)))) a b c = absurd (omega arith)

-- and so the two lists end alike, from every fit crate
pub sample-alike : (m : List ℕ) → FitCrate m → Alike leaves gives m (at3 ∷ unlent ∷ at5 ∷ all ∷ []) (at5 ∷ unlent ∷ at3 ∷ all ∷ []) places
sample-alike m f = crate-regroup m f (at3 ∷ unlent ∷ at5 ∷ all ∷ []) (at5 ∷ unlent ∷ at3 ∷ all ∷ []) places sample

-- ---- no rearrangement: an event may not pass Z, whatever places are named
pub no-sample : (p : List ℕ) → Rearranged touches beyond (at3 ∷ all ∷ []) (all ∷ at3 ∷ []) p → ⊥
no-sample p r =
    let l : 2 ≡ length p = as_long touches beyond (at3 ∷ all ∷ []) (all ∷ at3 ∷ []) p r in
    let up : get_or p 0 0 < get_or p 1 0 = r.order 0 1 (omega arith) (omega arith) (3, omega arith, omega arith, touches-all 3, touches-3 3) in
    let e : get_or p 0 0 ≡ 0 = omega (arith, r.places 1 (omega arith)) in
    let s : all ≡ at3 = rw e at (step-at touches beyond (at3 ∷ all ∷ []) (all ∷ at3 ∷ []) p r 0 (omega arith)) in
    let t : Ok Z ≡ Ok (Front 3 0 1) = ap (λ (o : Order). o.reading) s in
    let z : ◌≡◌ {A = ℕ} 0 1 = cc in
    omega arith

-- ---- a command to many stations keeps two others in order: past it, the events at 3 and 5 may not change places, whatever places are named
module _ (between : Order) (everywhere : (k : ℕ) → touches between k ≡ true) where
  pub held-in-order : (p : List ℕ) → Rearranged touches beyond (at3 ∷ between ∷ at5 ∷ []) (at5 ∷ between ∷ at3 ∷ []) p → ⊥
  held-in-order p r =
      let l : 3 ≡ length p = as_long touches beyond (at3 ∷ between ∷ at5 ∷ []) (at5 ∷ between ∷ at3 ∷ []) p r in
      let up : get_or p 0 0 < get_or p 1 0 = r.order 0 1 (omega arith) (omega arith) (5, omega arith, omega arith, touches-5 5, everywhere 5) in
      let on : get_or p 1 0 < get_or p 2 0 = r.order 1 2 (omega arith) (omega arith) (3, omega arith, omega arith, everywhere 3, touches-3 3) in
      let e : get_or p 0 0 ≡ 0 = omega (arith, r.places 2 (omega arith)) in
      let s : at5 ≡ at3 = rw e at (step-at touches beyond (at3 ∷ between ∷ at5 ∷ []) (at5 ∷ between ∷ at3 ∷ []) p r 0 (omega arith)) in
      let t : Ok (Front 5 0 1) ≡ Ok (Front 3 0 1) = ap (λ (o : Order). o.reading) s in
      let z : ◌≡◌ {A = ℕ} 5 3 = cc in
      omega arith

-- one to N26, and one to N24 too, whatever the register holds
abbrev pub to_all : Order
to_all = order (Ok (Command 26 0 0 0)) []

abbrev pub to_register : Order
to_register = order (Ok (Command 24 0 0 0)) []

pub many-sample : (p : List ℕ) → Rearranged touches beyond (at3 ∷ to_all ∷ at5 ∷ []) (at5 ∷ to_all ∷ at3 ∷ []) p → ⊥
unfolding command_verdict
many-sample = held-in-order to_all (λ k. refl)

pub register-sample : (p : List ℕ) → Rearranged touches beyond (at3 ∷ to_register ∷ at5 ∷ []) (at5 ∷ to_register ∷ at3 ∷ []) p → ⊥
unfolding command_verdict
register-sample = held-in-order to_register (λ k. refl)

-- ---- three steps of which no two touch a station in common may be turned round
-- each touches its own station only
apart : (x y : Order) (i j : ℕ) → ((k : ℕ) → touches x k ≡ eqb i k) → ((k : ℕ) → touches y k ≡ eqb j k) → (i ≡ j → ⊥) → Common touches x y → ⊥
apart x y i j p q other c = other (eqb-true i c.0 (sym (p c.0) ∙ c.3) ∙ sym (eqb-true j c.0 (sym (q c.0) ∙ c.4)))

abbrev pub turned : List ℕ
turned = 2 ∷ 1 ∷ 0 ∷ []

module _ (x y z : Order) (no-zy : Common touches z y → ⊥) (no-zx : Common touches z x → ⊥) (no-yx : Common touches y x → ⊥) where
  turned_round : Rearranged touches beyond (x ∷ y ∷ z ∷ []) (z ∷ y ∷ x ∷ []) turned
  turned_round = record { second = refl; places = below; each = every; once = once; order = kept }
    where
      below : (k : ℕ) → k < 3 → get_or turned k 0 < 3
      below zero h = omega arith
      below (suc zero) h = omega arith
      below (suc (suc zero)) h = omega arith
      below (suc (suc (suc k))) h = absurd (omega arith)

      there : (k : ℕ) → k < 3 → get_or turned (get_or turned k 0) 0 ≡ k
      there zero h = refl
      there (suc zero) h = refl
      there (suc (suc zero)) h = refl
      there (suc (suc (suc k))) h = absurd (omega arith)

      every : (i : ℕ) → i < 3 → (k : ℕ) × (k < 3) × (get_or turned k 0 ≡ i)
      every i h = (get_or turned i 0, below i h, there i h)

      once : (j k : ℕ) → j < 3 → k < 3 → get_or turned j 0 ≡ get_or turned k 0 → j ≡ k
      once j k a b e = sym (there j a) ∙ ap (λ (i : ℕ). get_or turned i 0) e ∙ there k b

      kept : (j k : ℕ) → j < k → k < 3 → Common touches (get_or (z ∷ y ∷ x ∷ []) j beyond) (get_or (z ∷ y ∷ x ∷ []) k beyond) → get_or turned j 0 < get_or turned k 0
      kept zero (suc zero) a b c = absurd (no-zy c)
      kept zero (suc (suc zero)) a b c = absurd (no-zx c)
      kept (suc zero) (suc (suc zero)) a b c = absurd (no-yx c)
      kept j zero a b c = absurd (omega arith)
      kept (suc j) (suc zero) a b c = absurd (omega arith)
      kept (suc (suc j)) (suc (suc zero)) a b c = absurd (omega arith)
      kept j (suc (suc (suc k))) a b c = absurd (omega arith)

-- ---- a command moves past a Repeat past a Stop
abbrev pub command3 : Order
command3 = order (Ok (Command 3 0 0 0)) []

abbrev pub repeat5 : Order
repeat5 = order (Ok (Repeat 5 0 0 1 1)) (0 ∷ [])

abbrev pub stop7 : Order
stop7 = order (Ok (Stop 7 0 0 1)) (0 ∷ [])

touches-command : (k : ℕ) → touches command3 k ≡ eqb 3 k
unfolding command_verdict
touches-command k = refl

touches-repeat : (k : ℕ) → touches repeat5 k ≡ eqb 5 k
unfolding repeat_verdict
touches-repeat k = refl

touches-stop : (k : ℕ) → touches stop7 k ≡ eqb 7 k
unfolding stop_verdict
touches-stop k = refl

pub turned-sample : Rearranged touches beyond (command3 ∷ repeat5 ∷ stop7 ∷ []) (stop7 ∷ repeat5 ∷ command3 ∷ []) turned
turned-sample =
    turned_round command3 repeat5 stop7
    (apart stop7 repeat5 7 5 touches-stop touches-repeat (λ e. omega (arith, e)))
    (apart stop7 command3 7 3 touches-stop touches-command (λ e. omega (arith, e)))
    (apart repeat5 command3 5 3 touches-repeat touches-command (λ e. omega (arith, e)))

pub turned-alike : (m : List ℕ) → FitCrate m → Alike leaves gives m (command3 ∷ repeat5 ∷ stop7 ∷ []) (stop7 ∷ repeat5 ∷ command3 ∷ []) turned
turned-alike m f = crate-regroup m f (command3 ∷ repeat5 ∷ stop7 ∷ []) (stop7 ∷ repeat5 ∷ command3 ∷ []) turned turned-sample

-- ---- and where the Repeat ends 3: a scaler in station 3, one in 7, and none in 5
abbrev pub around5 : List ℕ
around5 = with_module (with_module empty_crate (record { n = 3; kind = 1; r = 1; wide = 1 })) (record { n = 7; kind = 1; r = 1; wide = 1 })

-- what the three steps give back
abbrev replied : Out
replied = record { answer = Replied (record { x = 1; q = 1; r = 0 }); buffer = [] }

abbrev three : Out
three = record { answer = Transferred (record { end = 3; words = 0; cycles = 1 }); buffer = 0 ∷ [] }

abbrev reached : Out
reached = record { answer = Transferred (record { end = 1; words = 1; cycles = 1 }); buffer = 0 ∷ [] }

around5-fit : is_fit_crate around5 ≡ true
unfolding block_of with_block in_table sources_of is_used header_tests is_fit_header is_fit_spare is_fit_register fit_tests is_fit_block is_fit_rest is_fit_station is_fit_cover crate_tests
    is_fit_crate with_module occupied_by
around5-fit = refl

pub three-sample : outs leaves gives around5 (command3 ∷ repeat5 ∷ stop7 ∷ []) ≡ replied ∷ three ∷ reached ∷ []
unfolding block_of with_block in_table sources_of is_used header_tests is_fit_header is_fit_spare is_fit_register fit_tests is_fit_block is_fit_rest is_fit_station is_fit_cover crate_tests
    is_fit_crate with_module occupied_by read_of functions_of command_of reply_of after_command sent_of keep repeat_next repeat_from stop_next stop_from command_verdict repeat_verdict stop_verdict
    step_of done_of
three-sample = refl

-- by demand 3 they do so in the other order too
pub three-regrouped : outs leaves gives around5 (stop7 ∷ repeat5 ∷ command3 ∷ []) ≡ reached ∷ three ∷ replied ∷ []
three-regrouped = (turned-alike around5 (crate-facts around5 around5-fit)).1 three ∙ ap (λ (os : List Out). arranged three os turned) three-sample

-- ---- steps of both entries: a Stop at the general entry with a limit above 32; the same at the trigger processor's entry, which is refused with 13 and
-- touches no station; and a Repeat there
abbrev pub general3 : Order
general3 = order (Ok (Stop 3 0 0 33)) (replicate 33 0)

abbrev pub long3 : Order
long3 = order (Ok (Processor (ShortStop 3 0 0 33))) (replicate 33 0)

abbrev pub short5 : Order
short5 = order (Ok (Processor (ShortRepeat 5 0 0 32 1))) (replicate 32 0)

touches-general : (k : ℕ) → touches general3 k ≡ eqb 3 k
unfolding stop_verdict
touches-general k = refl

touches-long : (k : ℕ) → touches long3 k ≡ false
unfolding short_stop_verdict
touches-long k = refl

touches-short : (k : ℕ) → touches short5 k ≡ eqb 5 k
unfolding short_repeat_verdict
touches-short k = refl

pub entries-sample : Rearranged touches beyond (general3 ∷ long3 ∷ short5 ∷ []) (short5 ∷ long3 ∷ general3 ∷ []) turned
entries-sample =
    turned_round general3 long3 short5
    (λ c. true≢false (sym c.4 ∙ touches-long c.0))
    (apart short5 general3 5 3 touches-short touches-general (λ e. omega (arith, e)))
    (λ c. true≢false (sym c.3 ∙ touches-long c.0))

pub entries-alike : (m : List ℕ) → FitCrate m → Alike leaves gives m (general3 ∷ long3 ∷ short5 ∷ []) (short5 ∷ long3 ∷ general3 ∷ []) turned
entries-alike m f = crate-regroup m f (general3 ∷ long3 ∷ short5 ∷ []) (short5 ∷ long3 ∷ general3 ∷ []) turned entries-sample
