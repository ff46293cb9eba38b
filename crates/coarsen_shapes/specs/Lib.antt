pub mod MergeFits
