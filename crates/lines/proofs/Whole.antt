-- THE LAW OF THE LINES: a file read byte by byte, in parts of any length, comes to what its lines come to, whatever is done with a line, so long as that looks
-- at no more than a line's first 81 bytes.
-- Assumes nothing.
use Prim.Native.Nat.{ℕ, zero, suc, ◌+◌, ◌<◌}
use mathlib.Core.Path.{◌≡◌, refl, sym, ap, ◌∙◌}
use mathlib.Core.Bool.{Bool, true, false, cond}
use mathlib.Core.List.{List, [], ◌∷◌, ◌++◌}
use native.Mathlib.Omega.{arith}
use lib.Dec.{eqb}
use lib.ListN.{length, take}
use Rattle.lines.specs.Lines.{last_line, cut, lines_of}
use Rattle.lines.specs.Cutting.{Does, Cutting, fresh, opened, ended, kept, step, feed, closed, after_lines, feed_parts, join}
use Rattle.lines.proofs.CuttingLaws.{open-still, shut-over, shut-ended, ended-part, ended-number, kept-part, kept-number, kept-held}
use Rattle.lines.proofs.CuttingLaws.{step_end, step_kept, feed-append, feed-shut, closed-shut, closed_none, closed-end}

-- whatever the parts
module _ {S : Type 0} (d : Does S) where
  pub feed-parts : (s : Cutting S) (cs : List (List ℕ)) → feed_parts d s cs ≡ feed d s (join cs)
  feed-parts s [] = refl
  feed-parts s (c ∷ cs) = feed-parts (feed d s c) cs ∙ sym (feed-append d s c (join cs))

module _ {S : Type 0} (d : Does S) (short : (k : ℕ) (l : List ℕ) (h : S) → d.line k (take 81 l) h ≡ d.line k l h) where
  -- once no line is taken, none is
  shut-lines : (s : Cutting S) (ls : List (List ℕ)) → d.more s.held ≡ false → s.held ≡ after_lines d s.number s.held ls
  shut-lines s [] e = refl
  shut-lines s (l ∷ ls) e =
      sym (ap (λ (t : Bool). cond t (after_lines d (s.number + 1) (d.line (s.number + 1) l s.held) ls) s.held) e)

  shut-adds : (s : Cutting S) (t : List ℕ) → opened d s ≡ false → (closed d (feed d s t)).held ≡ s.held
  shut-adds s t e = ap (λ (x : Cutting S). (closed d x).held) (feed-shut d s t e) ∙ ap (λ (x : Cutting S). x.held) (closed-shut d s e)

  -- a line p that ends, with the lines after it
  line-more : (s : Cutting S) (p : List ℕ) (ls : List (List ℕ)) → s.part ≡ take 81 p → d.more s.held ≡ true
      → after_lines d (ended d s).number (ended d s).held ls ≡ after_lines d s.number s.held (p ∷ ls)
  unfolding ended
  line-more s p ls h e =
      let k = s.number + 1 in
      ap (λ (x : S). after_lines d k x ls) (ap (λ (l : List ℕ). d.line k l s.held) h ∙ short k p s.held)
      ∙ sym (ap (λ (t : Bool). cond t (after_lines d k (d.line k p s.held) ls) s.held) e)

  -- the end of the file ends a line p that has bytes
  last-adds : (p : List ℕ) (n : ℕ) (s : Cutting S) → s.part ≡ take 81 p → s.number + suc n ≡ 99999 → d.more s.held ≡ true
      → (closed d s).held ≡ after_lines d s.number s.held (take (suc n) (last_line p))
  last-adds [] n s h e m =
      ap (λ (x : Cutting S). x.held) (closed_none d s (open-still d s (omega arith) m) (ap length h))
  last-adds (b ∷ p) n s h e m =
      let some : 0 < length s.part = omega (arith, ap length h) in
      ap (λ (x : Cutting S). x.held) (closed-end d s (open-still d s (omega arith) m) some)
      ∙ line-more s (b ∷ p) [] h m
      ∙ ap (λ (ls : List (List ℕ)). after_lines d s.number s.held ((b ∷ p) ∷ ls)) (none n)
    where
      none : (n : ℕ) → ◌≡◌ {A = List (List ℕ)} [] (take n [])
      none zero = refl
      none (suc n) = refl

  -- one byte, with the law for the bytes t after it
  byte-adds : (t : List ℕ)
      → ((p : List ℕ) (n : ℕ) (s : Cutting S) → s.part ≡ take 81 p → s.number + n ≡ 99999
      → (closed d (feed d s t)).held ≡ after_lines d s.number s.held (take n (cut p t)))
      → (b : ℕ) (p : List ℕ) (n : ℕ) (s : Cutting S) → s.part ≡ take 81 p → s.number + suc n ≡ 99999 → d.more s.held ≡ true
      → (l : Bool) → eqb b 10 ≡ l
      → (closed d (feed d (step d s b) t)).held
      ≡ after_lines d s.number s.held (take (suc n) (cond l (p ∷ cut [] t) (cut (p ++ (b ∷ [])) t)))
  byte-adds t ih b p n s h e m true el =
      ap (λ (x : Cutting S). (closed d (feed d x t)).held) (step_end d s b (open-still d s (omega arith) m) el)
      ∙ ih [] n (ended d s) (ended-part d s) (omega (arith, ended-number d s))
      ∙ line-more s p (take n (cut [] t)) h m
  byte-adds t ih b p n s h e m false el =
      ap (λ (x : Cutting S). (closed d (feed d x t)).held) (step_kept d s b (open-still d s (omega arith) m) el)
      ∙ ih (p ++ (b ∷ [])) (suc n) (kept s b) (kept-part s p b h) (omega (arith, kept-number s b))
      ∙ ap (λ (k : ℕ). after_lines d k (kept s b).held (take (suc n) (cut (p ++ (b ∷ [])) t))) (kept-number s b)
      ∙ ap (λ (x : S). after_lines d s.number x (take (suc n) (cut (p ++ (b ∷ [])) t))) (kept-held s b)

  -- taken or not
  byte-any : (t : List ℕ)
      → ((p : List ℕ) (n : ℕ) (s : Cutting S) → s.part ≡ take 81 p → s.number + n ≡ 99999
      → (closed d (feed d s t)).held ≡ after_lines d s.number s.held (take n (cut p t)))
      → (b : ℕ) (p : List ℕ) (n : ℕ) (s : Cutting S) → s.part ≡ take 81 p → s.number + suc n ≡ 99999
      → (m : Bool) → d.more s.held ≡ m
      → (closed d (feed d s (b ∷ t))).held ≡ after_lines d s.number s.held (take (suc n) (cut p (b ∷ t)))
  byte-any t ih b p n s h e true m = byte-adds t ih b p n s h e m (eqb b 10) refl
  byte-any t ih b p n s h e false m = shut-adds s (b ∷ t) (shut-ended d s m) ∙ shut-lines s (take (suc n) (cut p (b ∷ t))) m

  -- reading on from s, where p was read of the present line and n lines may still be read, does those lines
  pub by_lines : (t p : List ℕ) (n : ℕ) (s : Cutting S) → s.part ≡ take 81 p → s.number + n ≡ 99999
      → (closed d (feed d s t)).held ≡ after_lines d s.number s.held (take n (cut p t))
  by_lines [] p zero s h e = shut-adds s [] (shut-over d s (omega arith))
  by_lines [] p (suc n) s h e = go (d.more s.held) refl
    where
      go : (m : Bool) → d.more s.held ≡ m → (closed d s).held ≡ after_lines d s.number s.held (take (suc n) (last_line p))
      go true m = last-adds p n s h e m
      go false m = shut-adds s [] (shut-ended d s m) ∙ shut-lines s (take (suc n) (last_line p)) m
  by_lines (b ∷ t) p zero s h e = shut-adds s (b ∷ t) (shut-over d s (omega arith))
  by_lines (b ∷ t) p (suc n) s h e = byte-any t (by_lines t) b p n s h e (d.more s.held) refl

  -- a file
  pub file-law : (h : S) (file : List ℕ) → (closed d (feed d (fresh h) file)).held ≡ after_lines d 0 h (lines_of file)
  unfolding lines_of
  file-law h file = by_lines file [] 99999 (fresh h) refl refl

  pub parts-law : (h : S) (cs : List (List ℕ)) → (closed d (feed_parts d (fresh h) cs)).held ≡ after_lines d 0 h (lines_of (join cs))
  parts-law h cs = ap (λ (x : Cutting S). (closed d x).held) (feed-parts d (fresh h) cs) ∙ file-law h (join cs)
