-- The terms of a trade (01, Calls and prices; Articles 19, 25 and 64): the baseline in percent of full load and the limits of both tiers' bids.
use Rattle.std.specs.Prelude.{ℕ, ◌≤◌, ◌<◌}
use Rattle.units.specs.Load.{load}
use Rattle.files.specs.declared.Terms.{Terms}

-- those of document 01: half load; tier 1 bids 100 to 320 li, tier 2 bids 320 to 750
abbrev pub terms01 : Terms
terms01 =
    record {
      percent = 50;
      lowest1 = record { 0 = 100 };
      highest1 = record { 0 = 320 };
      lowest2 = record { 0 = 320 };
      highest2 = record { 0 = 750 };
    }

-- the baseline of a capacity of c MW, in kWh
abbrev pub baseline : Terms → ℕ → ℕ
baseline t c = load c t.percent

-- what holds of any terms: the baseline is above 40 percent and at most half load, limits rise, tier 1 ends where tier 2 may begin
pub record Sound (t : Terms) : Type 0 where
  pub above : 41 ≤ t.percent
  pub below : t.percent ≤ 50
  pub first : 1 ≤ t.lowest1.0
  pub rising1 : t.lowest1.0 < t.highest1.0
  pub apart : t.highest1.0 ≤ t.lowest2.0
  pub rising2 : t.lowest2.0 < t.highest2.0
  pub last : t.highest2.0 ≤ 1000
