-- A step as the code reads it: where a heading leads is one number off, and for a straight step that the numbers fit
-- nothing but the ends of the row is left to test.
use Rattle.std.specs.Option.{is_some}
use Rattle.std.proofs.Common.{Option, Some, None, ◌≡◌, ℕ, zero, suc, ◌+◌, ◌-◌, ◌*◌, ◌/◌, ◌%◌, ◌<◌, ◌≤◌, Bool, true, false, eqb, List, get_or, sym, refl, ap, ◌∙◌, subst, add-mul, mul-le-mul, div-add-mod', arith}
use borrow.Author.Tests.{eqb-false}
use Rattle.floor.specs.Floor.{Map, Open, cells}
use Rattle.floor.specs.inner.Ready.{SoundFloor}
use Rattle.steps.specs.Heading.{change_of}
use Rattle.steps.specs.inner.Leading.{lead_of}
use Rattle.steps.specs.Step.{steps_of}
use Rattle.steps.proofs.Grid.{cell, cell_column, cell_row}
use Rattle.steps.proofs.Headings.{changes_of, Slope, level, upright, slanted, slope}
use Rattle.steps.proofs.OnMap.{few_cells}
use Rattle.steps.proofs.Leads.{floor, open_column, to_step, from_step}
use Rattle.route_walker.specs.inner.Walkers.{Differ, InWidth, Readable, cost, fits, past}
use Rattle.route_walker.proofs.OnFloor.{lands}
use Rattle.route_walker.proofs.Searching.{cost_straight, fits_nowhere, fits_yes, yes_fits}

-- a heading leads at most two rows further
pub rows_small : (h width : ℕ) → h < 8 → width ≤ 128 → (change_of h).row * width ≤ 256
rows_small h width b wide = mul-le-mul (changes_of h b).flat wide

-- what bounds where a heading leads
pub ruleset near = (changes_of, rows_small, few_cells)

module _ (m : Map) (h x : ℕ) (b : h < 8) where
  -- where a heading leads, as the code counts it
  pub lead_past : (y : ℕ) → lead_of m h x ≡ Some y → y + (m.width + 1) ≡ past m.width x h
  lead_past y p =
      let s = to_step m h x y b p in
      let w = m.width in
      let rows : (x / w + (change_of h).row) * w ≡ (y / w + 1) * w = ap (λ (z : ℕ). z * w) s.row.sum in
      omega (arith, rows, s.column.sum, add-mul (x / w) (change_of h).row w, add-mul (y / w) 1 w, div-add-mod' x w, div-add-mod' y w)

  -- column and row of a cell that is counted so, where it does not leave the row's ends
  record LandsOn (y : ℕ) : Type 0 where
    column : x % m.width + (change_of h).column ≡ y % m.width + 1
    row : x / m.width + (change_of h).row ≡ y / m.width + 1

  placed : (y : ℕ) → 1 ≤ m.width → y + (m.width + 1) ≡ past m.width x h → 1 ≤ x % m.width + (change_of h).column
      → x % m.width + (change_of h).column ≤ m.width → LandsOn y
  unfolding cell
  placed y wide e low high = by (x / m.width + (change_of h).row) refl
    where
      whole : (r : ℕ) → x / m.width + (change_of h).row ≡ r → y + (m.width + 1) ≡ r * m.width + (x % m.width + (change_of h).column)
      whole r p =
          let q : (x / m.width + (change_of h).row) * m.width ≡ r * m.width = ap (λ (z : ℕ). z * m.width) p in
          omega (arith, q, e, add-mul (x / m.width) (change_of h).row m.width, div-add-mod' x m.width)

      by : (r : ℕ) → x / m.width + (change_of h).row ≡ r → LandsOn y
      by zero p = absurd (omega (arith, whole zero p))
      by (suc r) p =
          let q : y ≡ r * m.width + (x % m.width + (change_of h).column - 1) = omega (arith, whole (suc r) p, add-mul r 1 m.width) in
          let i : x % m.width + (change_of h).column - 1 < m.width = omega arith in
          let u : y % m.width ≡ x % m.width + (change_of h).column - 1 = ap (λ (z : ℕ). z % m.width) q
          ∙ cell_column (floor m) (x % m.width + (change_of h).column - 1) r i in
          let v : y / m.width ≡ r = ap (λ (z : ℕ). z / m.width) q ∙ cell_row (floor m) (x % m.width + (change_of h).column - 1) r i in
          record { column = omega arith; row = omega arith }

  -- a straight step whose numbers fit, and that does not leave the row, is permitted: both ends are open, and of a
  -- straight step they are all its cells
  straight_lead : SoundFloor m → (t : List ℕ) → Readable m t → h % 2 ≡ 0 → x < cells m → (y : ℕ) → y < cells m → LandsOn y
      → get_or t x 0 ≡ get_or t y 0 + cost h → lead_of m h x ≡ Some y
  straight_lead c t r even i y j p d =
      from_step m h x y (by (slope h b) (r.ends x y i j (d ∙ ap (λ (z : ℕ). get_or t y 0 + z) (sym (cost_straight h even)))))
    where
      by : Slope h → Open m (x % m.width) (x / m.width) × Open m (y % m.width) (y / m.width) → (steps_of m).Step h x y
      by (slanted odd k) ends = absurd (omega arith)
      by (upright e₀ k) (from, to) =
          let e : x % m.width ≡ y % m.width = omega (arith, p.column) in
          record {
            heading = b;
            column = record { sum = p.column };
            row = record { sum = p.row };
            from = from;
            to = to;
            side = subst (λ (z : ℕ). Open m z (y / m.width)) (sym e) to;
            other = subst (λ (z : ℕ). Open m z (x / m.width)) e from;
          }
      by (level e₀ k) (from, to) =
          let e : x / m.width ≡ y / m.width = omega (arith, p.row) in
          record {
            heading = b;
            column = record { sum = p.column };
            row = record { sum = p.row };
            from = from;
            to = to;
            side = subst (λ (z : ℕ). Open m (x % m.width) z) e from;
            other = subst (λ (z : ℕ). Open m (y % m.width) z) (sym e) to;
          }

  module _ (c : SoundFloor m) (t : List ℕ) (r : Readable m t) (i : x < cells m) (q : Bool) (d : Differ m.width t x h q) where
    -- numbers that do not differ by the step
    pub fits_off : q ≡ false → false ≡ fits (lead_of m) t x h
    fits_off e = by (fits (lead_of m) t x h) refl
      where
        by : (f : Bool) → fits (lead_of m) t x h ≡ f → false ≡ f
        by false g = refl
        by true g =
            let (y, p, s) = fits_yes (lead_of m) t x h g in
            absurd (d.none e y (omega (arith, r.size, lands m h x y b p)) (lead_past y p) s)

    module _ (fit : q ≡ true) where
      straight : eqb (h % 2) 1 ≡ false → h % 2 ≡ 0
      straight e = let n = eqb-false (h % 2) 1 e in omega arith

      -- a straight step, by whether it stays in the row
      pub fits_straight : eqb (h % 2) 1 ≡ false → (a : Bool) → InWidth m.width x h a → a ≡ fits (lead_of m) t x h
      fits_straight even true s =
          let (y, j, e, g) = d.found fit in
          let (low, high) = s.on refl in
          let k : y < cells m = omega (arith, r.size) in
          sym (yes_fits (lead_of m) t x h y (straight_lead c t r (straight even) i y k (placed y c.some_wide e low high) g) g)
      fits_straight even false s = by (fits (lead_of m) t x h) refl
        where
          by : (f : Bool) → fits (lead_of m) t x h ≡ f → false ≡ f
          by false g = refl
          by true g =
              let (y, p, e) = fits_yes (lead_of m) t x h g in
              let v = to_step m h x y b p in
              absurd (s.off refl (omega (arith, v.column.sum)) (omega (arith, v.column.sum, open_column m _ _ v.to)))

      -- a diagonal step, by whether it leads anywhere
      pub fits_diagonal : (a : Option ℕ) → a ≡ lead_of m h x → is_some a ≡ fits (lead_of m) t x h
      fits_diagonal None e = fits_nowhere (lead_of m) t x h (sym e)
      fits_diagonal (Some y) e =
          let (z, j, f, g) = d.found fit in
          let same : z ≡ y = omega (arith, lead_past y (sym e)) in
          sym (yes_fits (lead_of m) t x h y (sym e) (g ∙ ap (λ (k : ℕ). get_or t k 0 + cost h) same))

-- what tells whether a step fits
pub ruleset fitting = (fits_off, fits_diagonal, fits_straight)
