pub mod SwapFits
